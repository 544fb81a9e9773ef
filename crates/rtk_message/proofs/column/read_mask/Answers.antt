use Rattle.std.proofs.Common.{◌≡◌, ◌<◌, ◌+◌, ◌++◌, ℕ, [], length, take, count_ones, refl, sym, ap, ◌∙◌, arith, length-append}
use lib.Count.{ones}
use Rattle.std.proofs.lemmas.List.{append-nil, length-set, take_more_set}
use Rattle.std.proofs.lemmas.List.Sums.{sum_by_push}
use Rattle.rtk_message.specs.Fields.{u, TakesAll}
use Rattle.rtk_message.specs.FieldColumns.{numbers}
use Rattle.rtk_message.proofs.ColumnLemmas.{took_more, took_whole, takes_none, ones_taken}
use Rattle.rtk_message.proofs.FieldLemmas.{took_rest}
use Rattle.rtk_message.proofs.column.read_mask.Goals as goal
use Rattle.rtk_message.proofs.column.read_mask.Goals.{then-signals-eq0-via-then-signals-eq0, then-signals-eq0-via-else-signals-eq0+then-satellites-eq0}

pub loop-place-preserved : goal.loop-place-preserved
unfolding ones
loop-place-preserved c =
    let before = c.loop-place.invariant in
    let k = c.loop-place.place in
    let none : c.args.signals ≡ 0 = elim c.then-signals-eq0.branch [
      | then-signals-eq0-via-then-signals-eq0 w ↦ omega arith
      | then-signals-eq0-via-else-signals-eq0+then-satellites-eq0 w ↦ omega (arith, c.loop-place-test.true)
    ] in
    let inside : k < length c.loop-place.mask = omega (arith, before.count, c.loop-place-test.true) in
    let more = take_more_set c.loop-place.mask k 0 inside in
    record {
      fields = rw (c.set.ensures, more) (took_more (λ (n : ℕ). u c.args.signals n) (take k c.loop-place.mask) 0 c.args.reader.now c.args.reader.now c.args.reader.now before.fields (takes_none c.args.signals c.args.reader.now none));
      cells = rw (c.set.ensures, more, sum_by_push count_ones (take k c.loop-place.mask) 0, before.cells) refl;
      count = ap length c.set.ensures ∙ length-set c.loop-place.mask k 0 ∙ before.count;
    }

pub returns-then-signals-eq0-clause-fields : goal.returns-then-signals-eq0-clause-fields
returns-then-signals-eq0-clause-fields c =
    took_whole (λ (n : ℕ). u c.args.signals n) c.loop-place.mask c.loop-place.place _ _ (omega (arith, c.loop-place.invariant.count, c.loop-place-test.false)) c.loop-place.invariant.fields

pub returns-clause-fields : goal.returns-clause-fields
returns-clause-fields c =
    let word = c.next_word-word.ensures in
    let set = c.set_fields.ensures in
    let start : TakesAll (numbers c.args.signals (take 0 c.resize.new.self)) c.args.reader.now (c.next_word-word.result ++ c.next_word-word.new.reader) = record { fit = tt; is = word.bits } in
    took_whole (λ (n : ℕ). u c.args.signals n) c.set_fields.new.column (0 + c.args.satellites) _ _ (omega (arith, set.count, c.resize.ensures))
    (took_rest c.set_fields.new.word (set.fields c.next_word-word.new.reader c.args.reader.now start) (omega (arith, set.left, word.width)))

pub returns-clause-cells : goal.returns-clause-cells
returns-clause-cells c =
    let word = c.next_word-word.ensures in
    let set = c.set_fields.ensures in
    let start : TakesAll (numbers c.args.signals (take 0 c.resize.new.self)) c.next_word-word.result (c.next_word-word.result ++ []) = record { fit = tt; is = sym (append-nil c.next_word-word.result) } in
    let rows = took_whole (λ (n : ℕ). u c.args.signals n) c.set_fields.new.column (0 + c.args.satellites) c.next_word-word.result (c.set_fields.new.word ++ []) (omega (arith, set.count, c.resize.ensures)) (set.fields [] c.next_word-word.result start) in
    c.count_ones-cells.ensures ∙ ones_taken c.args.signals c.set_fields.new.column c.next_word-word.result (c.set_fields.new.word ++ []) rows
    (omega (arith, set.left, word.width, length-append c.set_fields.new.word []))
