use Rattle.std.proofs.Common.{◌≡◌, ◌++◌, ◌<◌, ℕ, List, get_or, sym, ◌∙◌, ap, arith}
use Rattle.std.specs.Prelude.{bit_xor}
use Rattle.rtk_frame.specs.Steps.Remainder.{remainder}
use Rattle.rtk_frame.proofs.Blocks.{block, four_bytes, items, items_small, spelled}
use Rattle.rtk_frame.proofs.checksum.after_eight.Goals as goal

pub returns : goal.returns
returns c = λ rest.
    let b : List ℕ = c.args.bytes.now in
    let s : ℕ = c.args.state in
    let w : ℕ = bit_xor s c.from_be_bytes.result in
    let front : w ≡ bit_xor s (four_bytes (get_or b 0 0) (get_or b 1 0) (get_or b 2 0) (get_or b 3 0)) = ap (bit_xor s) (omega (arith, c.from_be_bytes.ensures)) in
    let tail : List ℕ = items 4 4 b in
    let small : (i : ℕ) → get_or b i 0 < 256 = c.fits-bytes in
    rw (c.entry.ensures, c.entry-2.ensures, c.entry-3.ensures, c.entry-4.ensures, c.entry-5.ensures, c.entry-6.ensures, c.entry-7.ensures, c.entry-8.ensures)
    (sym (ap (λ z. remainder s (z ++ rest)) (spelled 8 b c.told-bytes)
    ∙ block s (get_or b 0 0) (get_or b 1 0) (get_or b 2 0) (get_or b 3 0) tail rest (omega arith) (omega arith) (small 0) (small 1) (small 2) (small 3) (items_small 4 4 b small) w front))
