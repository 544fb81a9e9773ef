use Rattle.std.proofs.Common.{◌≡◌, ap, ◌∙◌, arith, ℤ, to_z, of_z, w32}
use Rattle.std.proofs.lemmas.Int.{ints}
use Rattle.rtk_obs.specs.Carriers.{frequency_at}
use Rattle.rtk_obs.specs.Doppler.{doppler_on, rate_of, rough_rate_at, fine_rate_at}
use Rattle.rtk_obs.specs.MsmCells.{cell_on}
use Rattle.rtk_obs.proofs.SignalCellLemmas.{is-set, not-set}
use Rattle.rtk_obs.proofs.DopplerLemmas.{doppler-there, doppler-absent}
use Rattle.rtk_obs.proofs.doppler_cells.WithDopplerSignalsOfMsm.set_entry.Goals as goal

pub returns-in_default : goal.returns-in_default
returns-in_default c = λ place identifier is known.
    not-set c.args.entry.now _ (doppler-absent c.args.self.now.channels.now c.args.self.now.message.now c.args.cell place identifier c.args.row.now is (known ∙ c.in_default.is))

pub returns : goal.returns
returns c = λ place identifier is known.
    let m = c.args.self.now.message.now in
    let row = c.args.row.now in
    let frequency = c.frequency-frequency.ensures.value ∙ ap (λ (x : _). frequency_at x row.channel) c.carrier.ensures in
    let told : ℤ = to_z w32 (of_z w32 c.doppler-shift.result) in
    let same : told ≡ c.doppler-shift.result = omega (arith, ints, c.doppler-shift.ensures.bound) in
    let shift = same ∙ c.doppler-shift.ensures.value ∙ ap (λ (x : _). doppler_on c.frequency-frequency.result (rate_of row.rough_rate x)) c.fine_rate_at-fine.ensures
    ∙ ap (λ (x : _). doppler_on c.frequency-frequency.result (rate_of x (fine_rate_at m c.args.cell))) is.rough_rate
    ∙ ap (λ (x : _). doppler_on x (rate_of (rough_rate_at m place) (fine_rate_at m c.args.cell))) frequency in
    let cell = c.set_values.ensures place is.rough ∙ ap (λ (f : _). cell_on m c.args.cell place f) frequency in
    is-set _ _ (doppler-there c.args.self.now.channels.now m c.args.cell place identifier row c.in-Some.code told c.set_values.new.cell is (known ∙ c.in-Some.is) shift cell)
