use Rattle.std.proofs.Common.{◌≡◌, ◌-◌, ◌<◌, length-drop, List, ℕ, length, take, drop, arith}
use Rattle.std.proofs.lemmas.List.{length-take}
use Rattle.rtk_rinex.specs.MixedForm.{width_at, has_phases}
use Rattle.rtk_rinex.proofs.CellLemmas.{columns-cut}
use Rattle.rtk_rinex.proofs.MixedRowLemmas.{has-mixed-form, mixed-row-of, mixed-cells-of-row, mixed-named, one-satellite}
use Rattle.rtk_rinex.proofs.mixed_satellite_line_check.is_mixed_row_line.Goals as goal

pub are_mixed_cells-requires-clause-few : goal.are_mixed_cells-requires-clause-few
are_mixed_cells-requires-clause-few c =
    rw (c.width-codes.ensures.value, c.has_doppler.ensures) ((has-mixed-form c.args.form.now c.args.line.now _ c.args.satellite c.requires.line c.requires.form (columns-cut c.args.line.now)).few)

pub returns : goal.returns
returns c =
    let line = c.args.line.now in
    let columns : List ℕ = take (length line - 1 - 3) (drop 3 line) in
    let s = c.args.satellite in
    let form = c.args.form.now in
    let f = has-mixed-form form line columns s c.requires.line c.requires.form (columns-cut line) in
    let some : 0 < length columns = omega (arith, length-take (length line - 1 - 3) (drop 3 line), length-drop 3 line) in
    let codes : c.width-codes.result ≡ width_at form s = c.width-codes.ensures.value in
    let phases : c.has_phases-phases.result ≡ has_phases form s = c.has_phases-phases.ensures in
    let doppler : c.has_doppler.result ≡ form.doppler = c.has_doppler.ensures in (
      λ e. mixed-row-of form line columns s f some (rw (codes, phases, doppler) at (c.are_mixed_cells.ensures.0 e)),
      λ r.
          let same = one-satellite line r.0.satellite s r.1.satellite f.satellite (mixed-named form.doppler line r.0 r.2) c.requires.form.1 in
          c.are_mixed_cells.ensures.1 (rw (codes, phases, doppler) ((mixed-cells-of-row form line columns s f r.0 r.1 same r.2).1)),
    )

pub returns-then-line-le4 : goal.returns-then-line-le4
returns-then-line-le4 c =
    let line = c.args.line.now in
    let columns : List ℕ = take (length line - 1 - 3) (drop 3 line) in
    let s = c.args.satellite in
    let f = has-mixed-form c.args.form.now line columns s c.requires.line c.requires.form (columns-cut line) in (
      λ e. cc,
      λ r. absurd (let same = one-satellite line r.0.satellite s r.1.satellite f.satellite (mixed-named c.args.form.now.doppler line r.0 r.2) c.requires.form.1 in
          let some = (mixed-cells-of-row c.args.form.now line columns s f r.0 r.1 same r.2).0 in
          omega (arith, some, length-take (length line - 1 - 3) (drop 3 line))),
    )
