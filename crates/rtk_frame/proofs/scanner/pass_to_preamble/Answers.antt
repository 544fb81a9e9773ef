use Rattle.std.proofs.Common.{◌≡◌, ℕ, List, length, ap, ◌∙◌, arith}
use Rattle.std.specs.List.{refill}
use Rattle.circular_buffer.specs.Buffer.{buffer}
use Rattle.rtk_frame.proofs.scanner.pass_to_preamble.Goals as goal

pub returns-clause-ring : goal.returns-clause-ring
returns-clause-ring c =
    let all : List ℕ = c.args.ring.now.items in
    let same = c.make_contiguous.ensures.value in
    let back : refill (length all) all c.make_contiguous.result.now ≡ all = c.make_contiguous.ensures.same_len c.make_contiguous.result.now (ap length same) ∙ same in
    ap (λ (xs : List ℕ). buffer xs c.args.ring.now.capacity) back

pub returns-clause-others : goal.returns-clause-others
returns-clause-others c = λ i l m.
    let none = rw c.make_contiguous.ensures.value at c.next_preamble.ensures.none in none i (omega arith) m
