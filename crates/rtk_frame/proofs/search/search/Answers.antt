use Rattle.std.proofs.Common.{ℕ, ◌+◌, List, arith}
use Rattle.rtk_frame.specs.declared.frame.Front.TheVariants.{Whole}
use Rattle.rtk_frame.proofs.NextFrame.{rest_of, none_to, none_next, none_at_place, place_of, frame_within, no_frame, is_next, found_within}
use Rattle.rtk_frame.proofs.search.search.Goals as goal

pub loop-place-init : goal.loop-place-init
loop-place-init c =
    let b : List ℕ = c.args.bytes.now in
    record {
      from = c.next_preamble-place.ensures.within.0;
      within = c.next_preamble-place.ensures.within.1;
      none = none_to b c.args.from c.args.from c.next_preamble-place.result (λ p l m. absurd (omega arith)) c.next_preamble-place.ensures.none;
      start = omega (arith, c.next_preamble-place.ensures.within.0);
      prefixes = c.requires.prefixes;
    }

pub loop-place-preserved : goal.loop-place-preserved
loop-place-preserved c =
    let b : List ℕ = c.args.bytes.now in
    let n : ℕ = c.loop-place.place in
    let start : ℕ = c.restart_if_far.new.start in
    let front = place_of b start n c.front_at.result c.restart_if_far.ensures.near.0 c.front_at.ensures.front in
    let here = none_at_place b n c.front_at.result c.loop-place-test.true front c.in_default.not-Whole in
    let next = c.next_preamble-place-in-loop-place.ensures in
    record {
      from = omega (arith, next.within.0, c.loop-place.invariant.from);
      within = next.within.1;
      none = none_to b c.args.from (n + 1) c.next_preamble-place-in-loop-place.result (none_next b c.args.from n c.loop-place.invariant.none here) next.none;
      start = omega (arith, next.within.0, c.restart_if_far.ensures.near.0);
      prefixes = rw (rest_of b start) at c.front_at.ensures.prefixes;
    }

pub returns-clause-least : goal.returns-clause-least
returns-clause-least c = λ p h. no_frame c.args.bytes.now c.args.from c.loop-place.place p c.loop-place.invariant.none h (omega arith)

pub found_at-requires : goal.found_at-requires
found_at-requires c =
    let b : List ℕ = c.args.bytes.now in
    let n : ℕ = c.loop-place.place in
    let whole = place_of b c.restart_if_far.new.start n (Whole c.in-Whole.payload_len) c.restart_if_far.ensures.near.0 c.in-Whole.ensures.front in
    omega (arith, frame_within b n whole.0, whole.1)

pub returns-in-Whole-clause-least : goal.returns-in-Whole-clause-least
returns-in-Whole-clause-least c =
    let b : List ℕ = c.args.bytes.now in
    let n : ℕ = c.loop-place.place in
    let whole = place_of b c.restart_if_far.new.start n (Whole c.in-Whole.payload_len) c.restart_if_far.ensures.near.0 c.in-Whole.ensures.front in
    is_next b c.found_at.result.payload.now c.args.from n c.in-Whole.payload_len c.found_at.result.place c.found_at.ensures.0 c.found_at.ensures.1 whole.1 c.loop-place.invariant.from whole.0 c.loop-place.invariant.none

pub returns-in-Whole-clause-within : goal.returns-in-Whole-clause-within
returns-in-Whole-clause-within c =
    let b : List ℕ = c.args.bytes.now in
    let n : ℕ = c.loop-place.place in
    let whole = place_of b c.restart_if_far.new.start n (Whole c.in-Whole.payload_len) c.restart_if_far.ensures.near.0 c.in-Whole.ensures.front in
    found_within b c.found_at.result.payload.now n c.in-Whole.payload_len c.found_at.result.place c.found_at.ensures.0 c.found_at.ensures.1 whole.1 whole.0
