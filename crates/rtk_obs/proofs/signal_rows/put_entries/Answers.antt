use Rattle.std.proofs.Common.{◌≡◌, ◌<◌, ◌≤◌, ◌^◌, ◌∙◌, ℕ, List, ap, refl, length, map, take, get_or, arith}
use Rattle.std.proofs.lemmas.List.Elements.{All-get_or}
use Rattle.rtk_message.specs.declared.system.System.{System}
use Rattle.rtk_obs.specs.MsmCells.{satellites_of, signals_of}
use Rattle.rtk_obs.specs.Signals.{code_in}
use Rattle.rtk_obs.proofs.MaskLemmas.{set_bits_from-length}
use Rattle.rtk_obs.proofs.MsmLemmas.{count-satellites, fits_at, cells_at, count-row_slots, next_row_entries, next_row_length, no_row_entries, no_row_length, few_in_message}
use Rattle.rtk_obs.proofs.signal_rows.put_entries.Goals as goal

pub make_places-requires : goal.make_places-requires
make_places-requires g c = omega (arith, c.cell_count.ensures, few_in_message (g.M.SignalsOfMsm.header c.args.message.now) (g.M.SignalsOfMsm.cell_mask c.args.message.now) c.requires.mask)

pub loop-place-init : goal.loop-place-init
loop-place-init g c = record {
  entries = no_row_entries (g.M.SignalsOfMsm.header c.args.message.now) (g.M.SignalsOfMsm.entry_of c.args.message.now);
  cells = no_row_length (g.M.SignalsOfMsm.header c.args.message.now);
  room = omega (arith, c.make_places.ensures, c.cell_count.ensures);
  few = omega arith;
}

pub coded_signals-signal_list-requires : goal.coded_signals-signal_list-requires
coded_signals-signal_list-requires g c =
    rw (c.as_slice-identifiers.ensures.value, c.signal_identifiers-identifier_list.ensures.value) (set_bits_from-length 1 32 c.mask_header-header.result.signal_mask)

pub put_satellite-progress-requires-clause-signals : goal.put_satellite-progress-requires-clause-signals
put_satellite-progress-requires-clause-signals g c =
    let identifiers : c.as_slice-identifiers.result.now ≡ signals_of (g.M.SignalsOfMsm.header c.args.message.now) =
    c.as_slice-identifiers.ensures.value ∙ (c.signal_identifiers-identifier_list.ensures.value ∙ ap signals_of c.mask_header-header.ensures) in
    c.as_slice-signals.ensures.value ∙ c.coded_signals-signal_list.ensures
    ∙ ap (λ (s : System). map (code_in s) c.as_slice-identifiers.result.now) c.own_system-system.ensures
    ∙ ap (λ (xs : List ℕ). map (code_in (g.M.SignalsOfMsm.system c.args.message.now)) xs) identifiers

pub put_satellite-progress-requires-clause-fits : goal.put_satellite-progress-requires-clause-fits
put_satellite-progress-requires-clause-fits g c =
    rw c.mask_rows-masks.ensures
    (fits_at (g.M.SignalsOfMsm.header c.args.message.now) (g.M.SignalsOfMsm.cell_mask c.args.message.now) c.requires.mask c.loop-place.place 0 (rw c.mask_rows-masks.ensures at c.loop-place-test.true))

pub put_satellite-progress-requires-clause-cells : goal.put_satellite-progress-requires-clause-cells
put_satellite-progress-requires-clause-cells g c =
    let fits : get_or c.mask_rows-masks.result.now c.loop-place.place 0 < 2 ^ length (signals_of (g.M.SignalsOfMsm.header c.args.message.now)) =
    rw c.mask_rows-masks.ensures
    (fits_at (g.M.SignalsOfMsm.header c.args.message.now) (g.M.SignalsOfMsm.cell_mask c.args.message.now) c.requires.mask c.loop-place.place 0 (rw c.mask_rows-masks.ensures at c.loop-place-test.true)) in
    omega (
      arith,
      count-row_slots (signals_of (g.M.SignalsOfMsm.header c.args.message.now)) c.loop-place.place (get_or c.mask_rows-masks.result.now c.loop-place.place 0) fits,
      cells_at (g.M.SignalsOfMsm.header c.args.message.now) (g.M.SignalsOfMsm.cell_mask c.args.message.now) c.requires.mask c.mask_rows-masks.result.now (signals_of (g.M.SignalsOfMsm.header c.args.message.now)) c.loop-place.place 0 c.loop-place.progress.cell
          c.mask_rows-masks.ensures refl c.loop-place-test.true c.loop-place.invariant.cells,
    )

pub loop-place-preserved : goal.loop-place-preserved
loop-place-preserved g c =
    let fits : get_or c.mask_rows-masks.result.now c.loop-place.place 0 < 2 ^ length (signals_of (g.M.SignalsOfMsm.header c.args.message.now)) =
    rw c.mask_rows-masks.ensures
    (fits_at (g.M.SignalsOfMsm.header c.args.message.now) (g.M.SignalsOfMsm.cell_mask c.args.message.now) c.requires.mask c.loop-place.place 0 (rw c.mask_rows-masks.ensures at c.loop-place-test.true)) in
    record {
      entries = next_row_entries (g.M.SignalsOfMsm.header c.args.message.now) (g.M.SignalsOfMsm.entry_of c.args.message.now) c.mask_rows-masks.result.now (signals_of (g.M.SignalsOfMsm.header c.args.message.now)) c.loop-place.place 0 c.loop-place.progress.cell
          (take c.loop-place.progress.count c.loop-place.found.items) (take c.put_satellite-progress.result.count c.put_satellite-progress.new.found.items)
          refl c.loop-place-test.true c.loop-place.invariant.cells c.loop-place.invariant.entries c.put_satellite-progress.ensures.entries;
      cells = next_row_length (g.M.SignalsOfMsm.header c.args.message.now) c.mask_rows-masks.result.now (signals_of (g.M.SignalsOfMsm.header c.args.message.now)) c.loop-place.place 0 c.loop-place.progress.cell c.put_satellite-progress.result.cell
          refl c.loop-place-test.true c.loop-place.invariant.cells (omega (arith, c.put_satellite-progress.ensures.cells, count-row_slots (signals_of (g.M.SignalsOfMsm.header c.args.message.now)) c.loop-place.place (get_or c.mask_rows-masks.result.now c.loop-place.place 0) fits));
      room = omega (arith, c.put_satellite-progress.ensures.room, c.loop-place.invariant.room);
      few = c.put_satellite-progress.ensures.few;
    }

-- the bit of the satellite of a row

pub bounds-numbers-place : goal.bounds-numbers-place
bounds-numbers-place g c =
    let satellites : c.as_slice-numbers.result.now ≡ satellites_of (g.M.SignalsOfMsm.header c.args.message.now) =
    c.as_slice-numbers.ensures.value ∙ (c.places_of_bits-bit_list.ensures.places ∙ ap satellites_of c.mask_header-header.ensures) in
    omega (arith, ap length satellites, count-satellites (g.M.SignalsOfMsm.header c.args.message.now) (g.M.SignalsOfMsm.cell_mask c.args.message.now) c.requires.mask, c.requires.mask.rows, ap length c.mask_rows-masks.ensures, c.loop-place-test.true)

pub put_satellite-progress-requires-clause-place : goal.put_satellite-progress-requires-clause-place
put_satellite-progress-requires-clause-place g c =
    omega (arith, c.requires.mask.rows, ap length c.mask_rows-masks.ensures, c.loop-place-test.true)

pub put_satellite-progress-requires-clause-bit : goal.put_satellite-progress-requires-clause-bit
put_satellite-progress-requires-clause-bit g c =
    let satellites : c.as_slice-numbers.result.now ≡ satellites_of (g.M.SignalsOfMsm.header c.args.message.now) =
    c.as_slice-numbers.ensures.value ∙ (c.places_of_bits-bit_list.ensures.places ∙ ap satellites_of c.mask_header-header.ensures) in
    ap (λ (xs : _). get_or xs c.loop-place.place 0) satellites

pub put_satellite-progress-requires-clause-low : goal.put_satellite-progress-requires-clause-low
put_satellite-progress-requires-clause-low g c =
    let satellites : c.as_slice-numbers.result.now ≡ satellites_of (g.M.SignalsOfMsm.header c.args.message.now) =
    c.as_slice-numbers.ensures.value ∙ (c.places_of_bits-bit_list.ensures.places ∙ ap satellites_of c.mask_header-header.ensures) in
    let inside : c.loop-place.place < length c.places_of_bits-bit_list.result.items =
    omega (arith, ap length satellites, ap length c.as_slice-numbers.ensures.value, count-satellites (g.M.SignalsOfMsm.header c.args.message.now) (g.M.SignalsOfMsm.cell_mask c.args.message.now) c.requires.mask, c.requires.mask.rows, ap length c.mask_rows-masks.ensures, c.loop-place-test.true) in
    rw c.as_slice-numbers.ensures.value ((All-get_or (λ (p : ℕ). (1 ≤ p) × (p ≤ 64)) c.places_of_bits-bit_list.result.items c.loop-place.place 0 inside c.places_of_bits-bit_list.ensures.bounds).0)
