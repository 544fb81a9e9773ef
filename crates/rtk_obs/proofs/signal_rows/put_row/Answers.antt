use Rattle.std.proofs.Common.{◌≡◌, ◌-◌, ◌∙◌, ℕ, List, Option, None, length, take, get_or, refl, sym, ap, arith}
use Rattle.std.proofs.lemmas.List.{length-map}
use Rattle.std.proofs.lemmas.Nat.{one_shl}
use Rattle.rtk_obs.specs.declared.any_code.AnyCode.{AnyCode}
use Rattle.rtk_obs.specs.MsmCells.{signals_of}
use Rattle.rtk_obs.specs.Signals.{code_in}
use Rattle.rtk_obs.proofs.CodedSignalLemmas.{get-mapped}
use Rattle.rtk_obs.proofs.MaskLemmas.{bit_within}
use Rattle.rtk_obs.proofs.MsmLemmas.{next_entries, next_count, all_entries, no_count, few_in_message}
use Rattle.rtk_obs.proofs.signal_rows.put_row.Goals as goal

pub loop-rest-init : goal.loop-rest-init
loop-rest-init g c = rw c.from-rest.ensures (record { entries = λ place is. refl; cells = refl; room = refl; few = c.requires.few; fits = c.requires.fits })

pub overflow_sub-signal : goal.overflow_sub-signal
overflow_sub-signal g c =
    let same = ap length c.requires.signals ∙ length-map (signals_of (g.M.SignalsOfMsm.header c.args.message.now)) (code_in (g.M.SignalsOfMsm.system c.args.message.now)) in
    let bit = bit_within (length (signals_of (g.M.SignalsOfMsm.header c.args.message.now))) c.loop-rest.rest c.top_bit-top.result c.loop-rest.invariant.fits c.top_bit-top.ensures.from c.top_bit-top.ensures.below in
    omega (arith, bit.0, same)

pub overflow_sub-signal-in-loop-rest : goal.overflow_sub-signal-in-loop-rest
overflow_sub-signal-in-loop-rest g c =
    let same = ap length c.requires.signals ∙ length-map (signals_of (g.M.SignalsOfMsm.header c.args.message.now)) (code_in (g.M.SignalsOfMsm.system c.args.message.now)) in
    let bit = bit_within (length (signals_of (g.M.SignalsOfMsm.header c.args.message.now))) c.loop-rest.rest c.top_bit-top.result c.loop-rest.invariant.fits c.top_bit-top.ensures.from c.top_bit-top.ensures.below in
    omega (arith, bit.0, same)

pub bounds-signals-width : goal.bounds-signals-width
bounds-signals-width g c =
    let same = ap length c.requires.signals ∙ length-map (signals_of (g.M.SignalsOfMsm.header c.args.message.now)) (code_in (g.M.SignalsOfMsm.system c.args.message.now)) in
    let bit = bit_within (length (signals_of (g.M.SignalsOfMsm.header c.args.message.now))) c.loop-rest.rest c.top_bit-top.result c.loop-rest.invariant.fits c.top_bit-top.ensures.from c.top_bit-top.ensures.below in
    omega (arith, bit.0, same)

pub put_entry-count-requires-clause-cell : goal.put_entry-count-requires-clause-cell
put_entry-count-requires-clause-cell g c =
    let bit = bit_within (length (signals_of (g.M.SignalsOfMsm.header c.args.message.now))) c.loop-rest.rest c.top_bit-top.result c.loop-rest.invariant.fits c.top_bit-top.ensures.from c.top_bit-top.ensures.below in
    omega (arith, next_count (signals_of (g.M.SignalsOfMsm.header c.args.message.now)) c.loop-rest.rest c.top_bit-top.result bit c.loop-rest.invariant.fits, c.loop-rest.invariant.cells, c.requires.cells)

pub put_entry-count-requires-clause-room : goal.put_entry-count-requires-clause-room
put_entry-count-requires-clause-room g c =
    let bit = bit_within (length (signals_of (g.M.SignalsOfMsm.header c.args.message.now))) c.loop-rest.rest c.top_bit-top.result c.loop-rest.invariant.fits c.top_bit-top.ensures.from c.top_bit-top.ensures.below in
    omega (arith, next_count (signals_of (g.M.SignalsOfMsm.header c.args.message.now)) c.loop-rest.rest c.top_bit-top.result bit c.loop-rest.invariant.fits, c.loop-rest.invariant.cells, c.loop-rest.invariant.few, c.requires.cells, c.requires.room, c.loop-rest.invariant.room)

pub overflow_add-cell : goal.overflow_add-cell
overflow_add-cell g c =
    let bit = bit_within (length (signals_of (g.M.SignalsOfMsm.header c.args.message.now))) c.loop-rest.rest c.top_bit-top.result c.loop-rest.invariant.fits c.top_bit-top.ensures.from c.top_bit-top.ensures.below in
    omega (arith, next_count (signals_of (g.M.SignalsOfMsm.header c.args.message.now)) c.loop-rest.rest c.top_bit-top.result bit c.loop-rest.invariant.fits, c.loop-rest.invariant.cells, c.requires.cells, few_in_message (g.M.SignalsOfMsm.header c.args.message.now) (g.M.SignalsOfMsm.cell_mask c.args.message.now) c.requires.mask)

pub loop-rest-preserved : goal.loop-rest-preserved
loop-rest-preserved g c =
    let bit = bit_within (length (signals_of (g.M.SignalsOfMsm.header c.args.message.now))) c.loop-rest.rest c.top_bit-top.result c.loop-rest.invariant.fits c.top_bit-top.ensures.from c.top_bit-top.ensures.below in
    let one = one_shl c.top_bit-top.result 64 (omega arith) in
    let at : ℕ = length (signals_of (g.M.SignalsOfMsm.header c.args.message.now)) - 1 - c.top_bit-top.result in
    let code : ℕ → Option AnyCode = code_in (g.M.SignalsOfMsm.system c.args.message.now) in
    let same = ap length c.requires.signals ∙ length-map (signals_of (g.M.SignalsOfMsm.header c.args.message.now)) code in
    let here = ap (λ (n : ℕ). get_or c.args.signals.now (n - 1 - c.top_bit-top.result) None) (sym same) in
    let known = sym (get-mapped code (signals_of (g.M.SignalsOfMsm.header c.args.message.now)) at 0 None (omega (arith, bit.0))) ∙ ap (λ (xs : List (Option AnyCode)). get_or xs at None) (sym c.requires.signals) ∙ here in
    rw one (record {
      entries = λ place is. next_entries (g.M.SignalsOfMsm.entry_of c.args.message.now) (signals_of (g.M.SignalsOfMsm.header c.args.message.now)) place c.loop-rest.cell c.loop-rest.rest c.top_bit-top.result (get_or (signals_of (g.M.SignalsOfMsm.header c.args.message.now)) at 0)
          (take c.loop-rest.count c.loop-rest.found.items) (take c.put_entry-count.result c.put_entry-count.new.found.items) _ bit refl (c.put_entry-count.ensures.entries place (get_or (signals_of (g.M.SignalsOfMsm.header c.args.message.now)) at 0) is known) (c.loop-rest.invariant.entries place is);
      cells = omega (arith, next_count (signals_of (g.M.SignalsOfMsm.header c.args.message.now)) c.loop-rest.rest c.top_bit-top.result bit c.loop-rest.invariant.fits, c.loop-rest.invariant.cells);
      room = omega (arith, c.put_entry-count.ensures.room, c.loop-rest.invariant.room);
      few = omega (arith, c.put_entry-count.ensures.one, c.loop-rest.invariant.few);
      fits = omega (arith, c.loop-rest.invariant.fits);
    })

pub returns-clause-entries : goal.returns-clause-entries
returns-clause-entries g c = λ place is.
    all_entries (g.M.SignalsOfMsm.entry_of c.args.message.now) (signals_of (g.M.SignalsOfMsm.header c.args.message.now)) place c.loop-rest.cell c.loop-rest.rest (take c.loop-rest.count c.loop-rest.found.items) _ c.loop-rest-test.false (c.loop-rest.invariant.entries place is)

pub returns-clause-cells : goal.returns-clause-cells
returns-clause-cells g c = omega (arith, no_count (signals_of (g.M.SignalsOfMsm.header c.args.message.now)) c.loop-rest.rest c.loop-rest-test.false c.loop-rest.invariant.fits, c.loop-rest.invariant.cells)

pub returns-clause-room : goal.returns-clause-room
returns-clause-room g c = c.loop-rest.invariant.room

pub returns-clause-few : goal.returns-clause-few
returns-clause-few g c = c.loop-rest.invariant.few
