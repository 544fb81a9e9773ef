use Rattle.std.proofs.Common.{◌-◌, List, ℕ, length, take, drop}
use Rattle.std.proofs.lemmas.Grind.{not_there}
use mathlib.Core.Logic.{∥∥₁_map}
use Rattle.rtk_rinex.specs.CheckLine.{IsSatelliteForm}
use Rattle.rtk_rinex.specs.Lines.{IsLine}
use Rattle.rtk_rinex.proofs.FormLemmas.{row-form}
use Rattle.rtk_rinex.proofs.CellLemmas.{HasRowForm, IsRowLineOf, has-form, row-shown, cells-of-row, columns-cut}
use Rattle.rtk_rinex.proofs.RecordsLemmas.{below}
use Rattle.rtk_rinex.proofs.satellite_line_read.read_row.Goals as goal

pub unreachable-requires : goal.unreachable-requires
unreachable-requires c =
    not_there c.requires.some (λ r. c.in_default.ensures r.0.satellite (rw r.2 (row-form c.args.code_count r.0 r.1)))

abbrev columns_of : List ℕ → List ℕ
columns_of line = take (length line - 1 - 3) (drop 3 line)

form : (n : ℕ) (line : List ℕ) (s : ℕ) → IsLine line → IsSatelliteForm n line s → HasRowForm n line (columns_of line) s
form n line s is f = has-form n line (columns_of line) s is f (columns-cut line)

pub read_cells-requires-clause-few : goal.read_cells-requires-clause-few
read_cells-requires-clause-few c = (form c.args.code_count c.args.line.now c.in-Some.satellite c.requires.line c.in-Some.ensures).few

pub read_cells-requires-clause-cells : goal.read_cells-requires-clause-cells
read_cells-requires-clause-cells c =
    let line = c.args.line.now in
    let f = form c.args.code_count line c.in-Some.satellite c.requires.line c.in-Some.ensures in
    ∥∥₁_map c.requires.some (λ r. (cells-of-row c.args.code_count line (columns_of line) c.in-Some.satellite f r.0 r.1 r.2).1)

shown : (c : goal.After-read_cells) → IsRowLineOf c.args.code_count c.args.line.now (record { satellite = c.in-Some.satellite; observed = c.read_cells.new.observed })
shown c =
    let line = c.args.line.now in
    let f = form c.args.code_count line c.in-Some.satellite c.requires.line c.in-Some.ensures in
    let some = below 0 (length (columns_of line)) c.requires.some (λ r. (cells-of-row c.args.code_count line (columns_of line) c.in-Some.satellite f r.0 r.1 r.2).0) in
    row-shown c.args.code_count line (columns_of line) c.in-Some.satellite c.read_cells.new.observed.items f some c.read_cells.ensures.observed c.read_cells.ensures.code_count c.read_cells.ensures.text

pub returns-clause-row : goal.returns-clause-row
returns-clause-row c = (shown c).row

pub returns-clause-text : goal.returns-clause-text
returns-clause-text c = (shown c).text
