use Rattle.std.proofs.Common.{◌≡◌, ℕ, List, [], drop, ap, ◌∙◌, sym, arith}
use Rattle.std.proofs.Math.ListN.{drop_of_length-le}
use Rattle.circular_buffer.specs.Buffer.{buffer}
use Rattle.rtk_frame.proofs.scanner.remove_front.Goals as goal

pub returns-then-count-len : goal.returns-then-count-len
returns-then-count-len c =
    let none : drop c.args.count c.args.ring.now.items ≡ [] = drop_of_length-le c.args.ring.now.items (omega (arith, c.len.ensures.len)) in
    c.clear.ensures ∙ ap (λ (xs : List ℕ). buffer xs c.args.ring.now.capacity) (sym none)
