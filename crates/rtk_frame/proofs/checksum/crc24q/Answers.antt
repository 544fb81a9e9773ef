use Rattle.std.proofs.Common.{◌≡◌, ℕ, List, ◌∷◌, ◌++◌, [], ◌<◌, ◌+◌, get_or, drop, length, refl, sym, ◌∙◌, ap, arith, drop-cons, add-one}
use Rattle.std.proofs.lemmas.List.{take-append-drop}
use Rattle.std.proofs.Math.ListN.{drop_of_length-le}
use Rattle.rtk_frame.specs.Steps.Remainder.{remainder}
use Rattle.rtk_frame.proofs.Remainder.{crc_end}
use Rattle.rtk_frame.proofs.checksum.crc24q.Goals as goal

pub loop-block-preserved : goal.loop-block-preserved
loop-block-preserved c =
    let r : List ℕ = c.loop-block.rest.now in
    let p = c.in-Some.ensures.cases in
    let parts : c.in-Some.block.now ++ c.in-Some.tail.now ≡ r = (λ j. p.0 j ++ p.1 j) ∙ take-append-drop 16 r in
    c.after_sixteen-state.ensures c.in-Some.tail.now ∙ ap (remainder c.loop-block.state) parts ∙ c.loop-block.invariant

pub loop-byte-preserved : goal.loop-byte-preserved
loop-byte-preserved c =
    let i : ℕ = c.loop-byte.byte-index in
    let items : List ℕ = c.match-split_first_chunk-2.rest.now in
    let lt : i < length items = c.loop-byte-test.true in
    let rest : drop i items ≡ get_or items i 0 ∷ drop (i + 1) items = rw (add-one, drop-cons items i 0) refl in
    c.after_byte-state.ensures (drop (i + 1) items) ∙ ap (remainder c.loop-byte.state) (sym rest) ∙ c.loop-byte.invariant

pub returns-clause-value : goal.returns-clause-value
returns-clause-value c =
    let items : List ℕ = c.match-split_first_chunk-2.rest.now in
    let e : drop c.loop-byte.byte-index items ≡ [] = drop_of_length-le items c.loop-byte-test.false in
    crc_end c.loop-byte.state c.args.bytes.now (omega arith) (ap (remainder c.loop-byte.state) (sym e) ∙ c.loop-byte.invariant)
