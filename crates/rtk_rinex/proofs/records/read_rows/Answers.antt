use Rattle.std.proofs.Common.{rules, ◌∙◌, [], ◌∷◌, None, arith, length-append}
use Rattle.std.proofs.lemmas.Grind.{not_there}
use mathlib.Core.Logic.{∥∥₁_map}
use Rattle.rtk_rinex.specs.Record.{satellite_line}
use Rattle.rtk_rinex.proofs.CheckLemmas.{rows-more, text-more}
use Rattle.rtk_rinex.proofs.LineLemmas.{satellite_line-line, no_line}
use Rattle.rtk_rinex.proofs.RecordsLemmas.{row-due, line-due, next-row, rows-below, row-good}
use Rattle.rtk_rinex.proofs.records.read_rows.Goals as goal

pub loop-init : goal.loop-init
loop-init c = search rules depth 5 fits 300

pub unreachable-requires : goal.unreachable-requires
unreachable-requires c =
    let l = c.loop in
    not_there c.requires.lines (λ has.
    let due = row-due c.args.code_count c.args.count l.epoch.rows c.args.text.now l.rest.now c.requires.code_count l.invariant.rows (omega (arith, l.invariant.count)) l.invariant.text has in
    no_line l.rest.now (satellite_line due.row) due.rest c.in_default.ensures (satellite_line-line due.row) due.text)

pub read_row-requires-clause-some : goal.read_row-requires-clause-some
read_row-requires-clause-some c =
    let l = c.loop in
    ∥∥₁_map c.requires.lines (λ has.
    let due = row-due c.args.code_count c.args.count l.epoch.rows c.args.text.now l.rest.now c.requires.code_count l.invariant.rows (omega (arith, l.invariant.count)) l.invariant.text has in
    (due.row, due.is_row, line-due c.in-Some.line.now c.in-Some.after.now l.rest.now due.row due.rest c.in-Some.ensures.0 c.in-Some.ensures.1 due.text))

pub push_row-requires-clause-good : goal.push_row-requires-clause-good
push_row-requires-clause-good c = rw c.as_slice.ensures.value (row-good c.args.code_count c.read_row.new.row c.read_row.ensures.row)

pub push_row-requires-clause-later : goal.push_row-requires-clause-later
push_row-requires-clause-later c =
    let l = c.loop in
    let row = c.read_row in
    let line = c.in-Some.ensures in
    rows-below c.args.code_count None l.epoch.rows row.new.row.satellite l.invariant.rows
    (next-row c.args.code_count c.args.count l.epoch.rows c.args.text.now l.rest.now c.in-Some.line.now c.in-Some.after.now row.new.row c.requires.code_count l.invariant.rows
    (omega (arith, l.invariant.count)) l.invariant.text line.0 line.1 row.ensures.row row.ensures.text c.requires.lines)

pub loop-preserved : goal.loop-preserved
loop-preserved c =
    let l = c.loop in
    let row = c.read_row in
    let line = c.in-Some.ensures in
    let next = next-row c.args.code_count c.args.count l.epoch.rows c.args.text.now l.rest.now c.in-Some.line.now c.in-Some.after.now row.new.row c.requires.code_count l.invariant.rows
    (omega (arith, l.invariant.count)) l.invariant.text line.0 line.1 row.ensures.row row.ensures.text c.requires.lines in
    rw (c.push_row.ensures, c.as_slice.ensures.value) (record {
      time = l.invariant.time;
      rows = rows-more c.args.code_count None l.epoch.rows row.new.row l.invariant.rows row.ensures.row next;
      count = length-append l.epoch.rows (row.new.row ∷ []) ∙ omega (arith, l.invariant.count);
      text = text-more satellite_line l.epoch.rows row.new.row c.args.text.now l.rest.now c.in-Some.line.now c.in-Some.after.now l.invariant.text line.1 row.ensures.text;
    })
