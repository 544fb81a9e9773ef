use Rattle.std.proofs.Common.{sym, ap, pos, ◌∙◌, ◌∷◌, [], None}
use Rattle.rtk_obs.specs.declared.any_code.AnyCode.{AnyCode}
use Rattle.rtk_obs.specs.AnyCode.{carrier_of}
use Rattle.rtk_obs.specs.Carriers.{frequency_at}
use Rattle.rtk_obs.specs.Code.{band_of}
use Rattle.rtk_obs.proofs.CodedSignalLemmas.{with-code, without-code}
use Rattle.rtk_obs.proofs.SignalCellLemmas.{is-set, not-set, gps-entry-there, gps-entry-absent}
use Rattle.rtk_obs.proofs.SignalEntryLemmas.{frequency-of-gps}
use Rattle.rtk_obs.proofs.signal_cells.Msm1074SignalsOfMsm.set_entry.Goals as goal

pub returns-in_default : goal.returns-in_default
returns-in_default c = λ place identifier is known.
    not-set c.args.entry.now _ (gps-entry-absent c.args.self.now c.args.cell place identifier c.args.row.now is (without-code identifier (known ∙ c.in_default.is)))

pub returns : goal.returns
returns c = λ place identifier is known.
    let m = c.args.self.now in
    with-code identifier c.in-Some.code (known ∙ c.in-Some.is) (λ d coded same.
    let frequency = c.frequency-frequency.ensures.value ∙ ap (λ (x : _). frequency_at x None) c.carrier.ensures ∙ ap (λ (x : AnyCode). frequency_at (carrier_of x) None) (sym same) ∙ frequency-of-gps d in
    let cell = c.set_values_1074.ensures place (band_of d) is.rough frequency in
    is-set _ _ (gps-entry-there m c.args.cell place identifier c.args.row.now d c.set_values_1074.new.cell is coded cell
    ∙ ap (λ (x : AnyCode). record { satellite = c.args.row.now.satellite; code = x; doppler_millihertz = pos 0; cell = c.set_values_1074.new.cell } ∷ []) same))
