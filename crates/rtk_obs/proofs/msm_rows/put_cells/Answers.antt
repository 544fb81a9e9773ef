use Rattle.std.proofs.Common.{◌≡◌, ◌<◌, ◌^◌, ◌∙◌, ap, length, take, get_or, arith}
use Rattle.rtk_obs.specs.MsmCells.{signals_of, slot_entry}
use Rattle.rtk_obs.proofs.MsmLemmas.{fits_at, cells_at, count-row_slots, next_row_entries, next_row_length, no_row_entries, no_row_length, few_in_message}
use Rattle.rtk_obs.proofs.msm_rows.put_cells.Goals as goal

pub make_room-requires : goal.make_room-requires
make_room-requires g c = omega (arith, c.cells.ensures, few_in_message (g.M.CellsOfMsm.header c.args.message.now) (g.M.CellsOfMsm.cell_mask c.args.message.now) c.requires.mask)

pub loop-place-init : goal.loop-place-init
loop-place-init g c = record {
  entries = no_row_entries (g.M.CellsOfMsm.header c.args.message.now) (slot_entry (g.M.CellsOfMsm.header c.args.message.now) (g.M.CellsOfMsm.cell_of c.args.message.now));
  cells = no_row_length (g.M.CellsOfMsm.header c.args.message.now);
  room = omega (arith, c.make_room.ensures, c.cells.ensures);
  few = omega arith;
}

pub put_row-progress-requires-clause-fits : goal.put_row-progress-requires-clause-fits
put_row-progress-requires-clause-fits g c =
    let signals : c.as_slice-signals.result.now ≡ signals_of (g.M.CellsOfMsm.header c.args.message.now) =
    c.as_slice-signals.ensures.value ∙ (c.signal_identifiers-signal_list.ensures.value ∙ ap signals_of c.header-header.ensures) in
    rw (signals, c.cell_mask-masks.ensures)
    (fits_at (g.M.CellsOfMsm.header c.args.message.now) (g.M.CellsOfMsm.cell_mask c.args.message.now) c.requires.mask c.loop-place.place 0 (rw c.cell_mask-masks.ensures at c.loop-place-test.true))

pub put_row-progress-requires-clause-cells : goal.put_row-progress-requires-clause-cells
put_row-progress-requires-clause-cells g c =
    let signals : c.as_slice-signals.result.now ≡ signals_of (g.M.CellsOfMsm.header c.args.message.now) =
    c.as_slice-signals.ensures.value ∙ (c.signal_identifiers-signal_list.ensures.value ∙ ap signals_of c.header-header.ensures) in
    let fits : get_or c.cell_mask-masks.result.now c.loop-place.place 0 < 2 ^ length c.as_slice-signals.result.now =
    rw (signals, c.cell_mask-masks.ensures)
    (fits_at (g.M.CellsOfMsm.header c.args.message.now) (g.M.CellsOfMsm.cell_mask c.args.message.now) c.requires.mask c.loop-place.place 0 (rw c.cell_mask-masks.ensures at c.loop-place-test.true)) in
    omega (
      arith,
      count-row_slots c.as_slice-signals.result.now c.loop-place.place (get_or c.cell_mask-masks.result.now c.loop-place.place 0) fits,
      cells_at (g.M.CellsOfMsm.header c.args.message.now) (g.M.CellsOfMsm.cell_mask c.args.message.now) c.requires.mask c.cell_mask-masks.result.now c.as_slice-signals.result.now c.loop-place.place 0 c.loop-place.progress.cell
          c.cell_mask-masks.ensures signals c.loop-place-test.true c.loop-place.invariant.cells,
    )

pub loop-place-preserved : goal.loop-place-preserved
loop-place-preserved g c =
    let signals : c.as_slice-signals.result.now ≡ signals_of (g.M.CellsOfMsm.header c.args.message.now) =
    c.as_slice-signals.ensures.value ∙ (c.signal_identifiers-signal_list.ensures.value ∙ ap signals_of c.header-header.ensures) in
    let fits : get_or c.cell_mask-masks.result.now c.loop-place.place 0 < 2 ^ length c.as_slice-signals.result.now =
    rw (signals, c.cell_mask-masks.ensures)
    (fits_at (g.M.CellsOfMsm.header c.args.message.now) (g.M.CellsOfMsm.cell_mask c.args.message.now) c.requires.mask c.loop-place.place 0 (rw c.cell_mask-masks.ensures at c.loop-place-test.true)) in
    record {
      entries = next_row_entries (g.M.CellsOfMsm.header c.args.message.now) (slot_entry (g.M.CellsOfMsm.header c.args.message.now) (g.M.CellsOfMsm.cell_of c.args.message.now)) c.cell_mask-masks.result.now c.as_slice-signals.result.now c.loop-place.place 0 c.loop-place.progress.cell
          (take c.loop-place.progress.count c.loop-place.found.items) (take c.put_row-progress.result.count c.put_row-progress.new.found.items)
          signals c.loop-place-test.true c.loop-place.invariant.cells c.loop-place.invariant.entries (c.put_row-progress.ensures.entries c.loop-place.place c.row_of-row.ensures);
      cells = next_row_length (g.M.CellsOfMsm.header c.args.message.now) c.cell_mask-masks.result.now c.as_slice-signals.result.now c.loop-place.place 0 c.loop-place.progress.cell c.put_row-progress.result.cell
          signals c.loop-place-test.true c.loop-place.invariant.cells (omega (arith, c.put_row-progress.ensures.cells, count-row_slots c.as_slice-signals.result.now c.loop-place.place (get_or c.cell_mask-masks.result.now c.loop-place.place 0) fits));
      room = omega (arith, c.put_row-progress.ensures.room, c.loop-place.invariant.room);
      few = c.put_row-progress.ensures.few;
    }
