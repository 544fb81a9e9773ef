use Rattle.std.proofs.Common.{◌≡◌, ◌≤◌, ◌-◌, ◌+◌, ◌*◌, ◌/◌, refl, ◌∙◌, arith, rules}
use Rattle.std.proofs.Math.Nat.{le_refl}
use Rattle.rtk_message.proofs.ColumnLemmas.{at_once, some_at_once, enough_left, left_after, took_whole}
use Rattle.rtk_message.proofs.column.read_column.Goals as goal

pub read_fields-requires : goal.read_fields-requires
read_fields-requires g c =
    let width = c.args.width in
    let most = 57 / width in
    let some = some_at_once width c.requires.some.0 c.requires.some.1 in
    let bits : width * most ≤ 57 = at_once width most (le_refl most) in
    let room : c.loop-at.at + most ≤ c.args.count = omega (arith, c.loop-at-test.true, c.loop-at.invariant.some) in
    let enough = enough_left width c.loop-at.at most c.args.count _ _ room c.requires.enough c.loop-at.invariant.left in
    (search rules, ((omega (arith, room, c.requires.few), omega (arith, room, c.loop-at.invariant.count)), (c.requires.width, ((c.requires.some.0, some, omega (arith, bits)), enough))))

pub loop-at-preserved : goal.loop-at-preserved
loop-at-preserved g c =
    let before = c.loop-at.invariant in
    let most = 57 / c.args.width in
    let read = c.read_fields.ensures in
    record {
      fields = read.fields c.args.reader.now before.fields;
      left = left_after c.args.width c.loop-at.at most (c.loop-at.at + most) _ _ _ before.left read.left refl;
      some = omega (arith, c.loop-at-test.true, before.some);
      count = read.count ∙ before.count;
    }

pub read_fields-requires-then-rest-gt0 : goal.read_fields-requires-then-rest-gt0
read_fields-requires-then-rest-gt0 g c =
    let width = c.args.width in
    let rest = c.args.count - c.loop-at.at in
    let before = c.loop-at.invariant in
    let few : rest ≤ 57 / width = omega (arith, c.loop-at-test.false) in
    let bits : width * rest ≤ 57 = at_once width rest few in
    let room : c.loop-at.at + rest ≤ c.args.count = omega (arith, before.some) in
    let enough = enough_left width c.loop-at.at rest c.args.count _ _ room c.requires.enough before.left in
    (search rules, ((omega (arith, room, c.requires.few), omega (arith, room, before.count)), (c.requires.width, ((c.requires.some.0, c.if-rest-gt0.true, omega (arith, bits)), enough))))

pub returns-then-rest-gt0-clause-fields : goal.returns-then-rest-gt0-clause-fields
returns-then-rest-gt0-clause-fields g c =
    let read = c.read_fields-then-rest-gt0.ensures in
    let before = c.loop-at.invariant in
    took_whole (g.T.FieldValue.field c.args.width) c.read_fields-then-rest-gt0.new.column (c.loop-at.at + (c.args.count - c.loop-at.at)) _ _
    (omega (arith, read.count, before.count, before.some)) (read.fields c.args.reader.now before.fields)

pub returns-then-rest-gt0-clause-left : goal.returns-then-rest-gt0-clause-left
returns-then-rest-gt0-clause-left g c =
    let before = c.loop-at.invariant in
    let all : c.args.count ≡ c.loop-at.at + (c.args.count - c.loop-at.at) = omega (arith, before.some) in
    left_after c.args.width c.loop-at.at (c.args.count - c.loop-at.at) c.args.count _ _ _ before.left c.read_fields-then-rest-gt0.ensures.left all
