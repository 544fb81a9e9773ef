use Rattle.std.proofs.Common.{◌≡◌, ◌+◌, ◌<◌, length, ap, ◌∙◌, arith}
use Rattle.std.proofs.lemmas.List.{length-set}
use Rattle.rtk_message.proofs.ColumnLemmas.{took_set, one_step}
use Rattle.rtk_message.proofs.column.set_fields.Goals as goal

pub loop-place-preserved : goal.loop-place-preserved
loop-place-preserved g c =
    let before = c.loop-place.invariant in
    let k = c.args.at + c.loop-place.place in
    let next : c.args.at + (c.loop-place.place + 1) ≡ k + 1 = omega arith in
    let inside : k < length c.loop-place.column = omega (arith, before.count, c.requires.room.1, c.loop-place-test.true) in
    record {
      fields = λ rest from p. rw (next, c.set.ensures) (took_set (g.T.FieldValue.field c.args.width) c.loop-place.column k c.next.result from rest inside (before.fields rest from p) c.next.ensures.taken);
      left = omega (arith, before.left, c.next.ensures.left, one_step c.args.width c.loop-place.place);
      count = ap length c.set.ensures ∙ length-set c.loop-place.column k c.next.result ∙ before.count;
    }

pub returns-clause-fields : goal.returns-clause-fields
returns-clause-fields g c =
    let all : c.loop-place.place ≡ c.args.fields = omega arith in
    rw (← all) c.loop-place.invariant.fields
