use Rattle.std.proofs.Common.{ℕ, List, arith}
use Rattle.rtk_frame.proofs.NextFrame.{rest_of, none_to, frame_within, no_frame, is_next, found_within}
use Rattle.rtk_frame.proofs.search.next_frame.Goals as goal

pub returns-then-place-bytes-clause-least : goal.returns-then-place-bytes-clause-least
returns-then-place-bytes-clause-least c =
    let b : List ℕ = c.args.bytes.now in
    let from : ℕ = c.args.from in
    let n : ℕ = c.next_preamble-place.result in
    λ p h. no_frame b from n p (none_to b from from n (λ p l m. absurd (omega arith)) c.next_preamble-place.ensures.none) h (omega arith)

pub found_at-requires : goal.found_at-requires
found_at-requires c =
    let b : List ℕ = c.args.bytes.now in
    let n : ℕ = c.next_preamble-place.result in
    let whole = rw (rest_of b n) at c.in-Whole.ensures in omega (arith, frame_within b n whole.0, whole.1)

pub returns-in-Whole-clause-least : goal.returns-in-Whole-clause-least
returns-in-Whole-clause-least c =
    let b : List ℕ = c.args.bytes.now in
    let from : ℕ = c.args.from in
    let n : ℕ = c.next_preamble-place.result in
    let whole = rw (rest_of b n) at c.in-Whole.ensures in
    is_next b c.found_at.result.payload.now from n c.in-Whole.payload_len c.found_at.result.place c.found_at.ensures.0 c.found_at.ensures.1 whole.1 c.next_preamble-place.ensures.within.0 whole.0
    (none_to b from from n (λ p l m. absurd (omega arith)) c.next_preamble-place.ensures.none)

pub returns-in-Whole-clause-within : goal.returns-in-Whole-clause-within
returns-in-Whole-clause-within c =
    let b : List ℕ = c.args.bytes.now in
    let n : ℕ = c.next_preamble-place.result in
    let whole = rw (rest_of b n) at c.in-Whole.ensures in
    found_within b c.found_at.result.payload.now n c.in-Whole.payload_len c.found_at.result.place c.found_at.ensures.0 c.found_at.ensures.1 whole.1 whole.0
