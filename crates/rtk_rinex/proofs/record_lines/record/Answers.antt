use Rattle.std.proofs.Common.{◌≡◌, ◌∙◌, take, length, subst, List, ◌<◌, ◌≤◌, refl, sym, arith}
use Rattle.std.proofs.lemmas.List.{take_all}
use Rattle.rtk_rinex.specs.declared.epoch_table.SatelliteRow.{SatelliteRow}
use Rattle.rtk_rinex.specs.RecordLines.{HoldsLines}
use Rattle.rtk_rinex.proofs.RecordLinesLemmas.{few-lines, kept-lines, row-pushed, row-passed}
use Rattle.rtk_rinex.proofs.record_lines.record.Goals as goal
use Rattle.rtk_rinex.proofs.record_lines.record.Goals.{then-has_line+in_ok-make_room_for+in_ok-push_row, else-has_line}

pub push_row-requires-clause-room : goal.push_row-requires-clause-room
push_row-requires-clause-room c =
    let few = few-lines c.loop-row.lines c.args.table.now.rows c.loop-row.row-index c.loop-row.invariant in
    omega (arith, few, c.make_room_for.ensures.count)

pub loop-row-preserved : goal.loop-row-preserved
loop-row-preserved c =
    let rows : List SatelliteRow = c.args.table.now.rows in
    let same : c.rows-row-items.result.now ≡ rows = c.rows-row-items.ensures.value in
    let i = c.loop-row.row-index in
    let held = c.loop-row.invariant in
    let lt : i < length rows = rw same at c.loop-row-test.true in
    let is = rw same at c.row-item.is in
    elim c.if-has_line.branch [
      | then-has_line+in_ok-make_room_for+in_ok-push_row w ↦ row-pushed c.if-has_line.lines rows i c.row-item.result c.row-item.result
          (rw w.lines-is (rw w.as_slice.ensures.value at (w.in_ok-push_row.ensures.ok (take i rows) (kept-lines c.loop-row.lines w.make_room_for.new.self (take i rows) w.make_room_for.ensures held)))) lt is
      | else-has_line w ↦ row-passed c.if-has_line.lines rows i c.row-item.result c.row-item.result (rw w.lines-is held) (sym c.has_line.ensures ∙ w.if-has_line.false) lt is
    ]

pub returns : goal.returns
returns c =
    let rows : List SatelliteRow = c.args.table.now.rows in
    let long : length rows ≤ c.loop-row.row-index = rw c.rows-row-items.ensures.value at c.loop-row-test.false in
    let all : HoldsLines c.loop-row.lines rows =
    subst (λ (rs : List SatelliteRow). HoldsLines c.loop-row.lines rs) (take_all c.loop-row.row-index rows long) c.loop-row.invariant in
    c.into_text.ensures ∙ c.finish.ensures.text rows all ∙ (rw c.time.ensures refl)
