use Rattle.std.proofs.Common.{◌-◌, List, ℕ, length, take, drop}
use Rattle.std.proofs.lemmas.Grind.{not_there}
use mathlib.Core.Logic.{∥∥₁_map}
use Rattle.rtk_rinex.specs.MixedForm.{FormView, width_at, has_phases}
use Rattle.rtk_rinex.specs.MixedCheckLine.{IsMixedForm}
use Rattle.rtk_rinex.specs.Lines.{IsLine}
use Rattle.rtk_rinex.proofs.CellLemmas.{columns-cut}
use Rattle.rtk_rinex.proofs.MixedRowLemmas.{HasMixedRowForm, IsMixedLineOf, has-mixed-form, mixed-row-form, codes-of-cells}
use Rattle.rtk_rinex.proofs.MixedRecordsLemmas.{columns-of, row-is}
use Rattle.rtk_rinex.proofs.mixed_records.read_mixed_row.Goals as goal

pub unreachable-requires : goal.unreachable-requires
unreachable-requires c =
    not_there c.requires.some (λ r. c.in_default.ensures r.0.satellite (rw r.2 (mixed-row-form c.args.form.now r.0 r.1)))

abbrev columns_in : List ℕ → List ℕ
columns_in line = take (length line - 1 - 3) (drop 3 line)

form : (f : FormView) (line : List ℕ) (s : ℕ) → IsLine line → IsMixedForm f line s → HasMixedRowForm f line (columns_in line) s
form f line s is h = has-mixed-form f line (columns_in line) s is h (columns-cut line)

pub read_cells_in-requires-clause-few : goal.read_cells_in-requires-clause-few
read_cells_in-requires-clause-few c =
    rw (c.width.ensures.value, c.has_doppler.ensures) ((form c.args.form.now c.args.line.now c.in-Some.satellite c.requires.line c.in-Some.ensures).few)

pub read_cells_in-requires-clause-cells : goal.read_cells_in-requires-clause-cells
read_cells_in-requires-clause-cells c =
    let f = c.args.form.now in
    let line = c.args.line.now in
    let s = c.in-Some.satellite in
    rw (c.width.ensures.value, c.has_doppler.ensures) (∥∥₁_map c.requires.some (λ r.
    codes-of-cells f.doppler (has_phases f s) (width_at f s) (columns_in line)
    (columns-of f line (columns_in line) s (form f line s c.requires.line c.in-Some.ensures) c.in-Some.ensures r).1))

shown : (c : goal.After-read_cells_in) → IsMixedLineOf c.args.form.now c.args.line.now (record { satellite = c.in-Some.satellite; observed = c.read_cells_in.new.observed })
shown c =
    let f = c.args.form.now in
    let line = c.args.line.now in
    let s = c.in-Some.satellite in
    row-is f line (columns_in line) s c.read_cells_in.new.observed.items (form f line s c.requires.line c.in-Some.ensures) c.in-Some.ensures c.requires.some
    (rw (← c.has_doppler.ensures) c.read_cells_in.ensures.observed) (rw (← c.width.ensures.value) c.read_cells_in.ensures.code_count) (rw (← c.width.ensures.value, ← c.has_doppler.ensures) c.read_cells_in.ensures.text)

pub returns-clause-row : goal.returns-clause-row
returns-clause-row c = (shown c).row

pub returns-clause-text : goal.returns-clause-text
returns-clause-text c = (shown c).text
