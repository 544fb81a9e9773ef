use Rattle.std.proofs.Common.{◌≡◌, ◌+◌, ◌==◌, ℕ, List, get_or, take, drop, arith, sym, ◌∙◌, ap, length-take, length-drop}
use Rattle.std.proofs.lemmas.List.{drop-drop}
use Rattle.rtk_frame.specs.Checksum.{crc}
use Rattle.rtk_frame.specs.Frame.{three_bytes}
use Rattle.rtk_frame.proofs.NextFrame.{rest_of}
use Rattle.rtk_frame.proofs.Parts.{crc_lt}
use Rattle.rtk_frame.proofs.PrefixLemmas.{first_of_none, part_sum}
use Rattle.rtk_frame.proofs.prefixes.has_checksum_at.Goals as goal

pub returns-then-not-good-clause-prefixes : goal.returns-then-not-good-clause-prefixes
returns-then-not-good-clause-prefixes c = rw c.push.ensures.items (first_of_none c.args.prefixes.now.items c.args.bytes.now (sym c.is_empty.ensures ∙ c.if-is_empty.true))

pub returns-else-not-good-clause-checksum : goal.returns-else-not-good-clause-checksum
returns-else-not-good-clause-checksum c = rw (rest_of c.args.bytes.now c.args.place) at c.has_checksum-good.ensures

pub checksum_of_last-requires : goal.checksum_of_last-requires
checksum_of_last-requires c =
    let n : ℕ = c.args.place in
    let k : ℕ = c.args.covered in
    let b : List ℕ = c.args.bytes.now in
    let are = c.know_prefix.ensures.prefixes in
    let same = c.as_slice-known.ensures.value in
    let known = c.know_prefix.ensures.known in (
      omega (arith, ap (λ (xs : List ℕ). get_or xs (n + k) 0) same, are.1 (n + k) known, crc_lt (take (n + k) b)),
      omega (arith, ap (λ (xs : List ℕ). get_or xs n 0) same, are.1 n (omega arith), crc_lt (take n b)),
      omega arith,
    )

pub returns-clause-checksum : goal.returns-clause-checksum
returns-clause-checksum c =
    let n : ℕ = c.args.place in
    let k : ℕ = c.args.covered in
    let b : List ℕ = c.args.bytes.now in
    let are = c.know_prefix.ensures.prefixes in
    let same = c.as_slice-known.ensures.value in
    let before = ap (λ (xs : List ℕ). get_or xs n 0) same ∙ are.1 n (omega (arith, c.know_prefix.ensures.known)) in
    let whole = ap (λ (xs : List ℕ). get_or xs (n + k) 0) same ∙ are.1 (n + k) c.know_prefix.ensures.known ∙ part_sum b n k in
    let sum : c.checksum_of_last.result ≡ crc (take k (drop n b)) = c.checksum_of_last.ensures (take n b) (take k (drop n b)) before whole (omega (arith, length-take k (drop n b), length-drop n b)) in
    let stored : c.stored_checksum.result ≡ three_bytes (drop k (drop n b)) = c.stored_checksum.ensures ∙ ap three_bytes (rest_of b (n + k) ∙ sym (drop-drop k n b)) in
    ap (λ (x : ℕ). x == c.stored_checksum.result) sum ∙ ap (λ (y : ℕ). crc (take k (drop n b)) == y) stored
