use Rattle.std.proofs.Common.{◌≡◌, ◌∙◌, ℤ, to_z, of_z, w32, ap, arith}
use Rattle.std.proofs.lemmas.Int.{ints}
use Rattle.rtk_obs.specs.declared.cell.Cell.{Cell}
use Rattle.rtk_convert.specs.Rows.{observed_by}
use Rattle.rtk_convert.proofs.epoch_rows.shown_of.Goals as goal

pub returns : goal.returns
returns g c =
    let e = g.E.FileEntry.signal_of c.args.entry.now in
    let digits = c.args.digits in
    let cell = c.cell.ensures ∙ c.cells_are_signals.ensures.values c.args.entry.now in
    let passed : to_z w32 (of_z w32 c.doppler.result) ≡ c.doppler.result = omega (arith, ints) in
    let shift = c.doppler.ensures ∙ c.cells_are_signals.ensures.shifts c.args.entry.now in
    c.observed.ensures ∙ ap (λ (d : ℤ). observed_by c.cell.result.now d digits) passed ∙ ap (λ (x : Cell). observed_by x c.doppler.result digits) cell
    ∙ ap (λ (d : ℤ). observed_by e.cell d digits) shift
