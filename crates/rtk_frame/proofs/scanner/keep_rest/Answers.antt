use Rattle.std.proofs.Common.{◌≡◌, ◌≤◌, ◌-◌, ℕ, List, length, take, drop, ap, ◌∙◌, arith, length-drop}
use Rattle.std.proofs.lemmas.List.{take_all}
use Rattle.circular_buffer.specs.Buffer.{buffer}
use Rattle.rtk_frame.proofs.scanner.keep_rest.Goals as goal

pub returns : goal.returns
returns c =
    let all : List ℕ = c.args.ring.now.items in
    let left : List ℕ = drop c.args.count all in
    let same = c.make_contiguous.ensures.value in
    let k : length all - c.args.count ≡ c.len.result - c.args.count = omega (arith, c.len.ensures.len) in
    let copied = rw (same, k) at c.copy_rest.ensures in
    let size : length left ≤ c.fill_from_slice.result = omega (arith, c.fill_from_slice.ensures.count, ap length copied, ap (λ b. b.capacity) c.clear.ensures, ap (λ b. length b.items) c.clear.ensures, c.requires.0, c.requires.2, length-drop c.args.count all) in
    let filled = rw c.clear.ensures at c.fill_from_slice.ensures.items in
    filled ∙ ap (λ z. buffer z c.args.ring.now.capacity) (ap (take c.fill_from_slice.result) copied ∙ take_all c.fill_from_slice.result left size)
