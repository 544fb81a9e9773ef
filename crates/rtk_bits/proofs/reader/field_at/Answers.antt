use Rattle.std.proofs.Common.{◌≡◌, ◌+◌, ◌-◌, ◌/◌, ◌%◌, ◌^◌, ◌≤◌, length, take, sym, ap, ◌∙◌, arith, w64}
use Rattle.std.specs.Int.{from_be_bytes}
use Rattle.rtk_bits.specs.Bits.{bits, unsigned}
use Rattle.rtk_bits.proofs.MachineWords.{and_low_mask, word_8}
use Rattle.rtk_bits.proofs.ReaderLemmas.{unsigned-field-bytes}
use Rattle.rtk_bits.proofs.reader.field_at.Goals as goal

pub returns-in-Some : goal.returns-in-Some
returns-in-Some c =
    let same : c.args.skip % 8 ≡ c.args.skip = omega (arith, c.requires.low.0) in
    let long : 8 ≤ length c.args.bytes.now = c.in-Some.ensures.cases.enough in
    let word : c.from_be_bytes-word.result ≡ unsigned (bits (take 8 c.args.bytes.now)) =
    c.from_be_bytes-word.ensures ∙ ap (from_be_bytes w64) c.in-Some.ensures.cases.same ∙ word_8 c.args.bytes.now long (λ i. omega (arith, c.type_inv.bytes i)) in
    rw (same, and_low_mask (c.from_be_bytes-word.result / 2 ^ (64 - (c.args.skip + c.args.width))) c.args.width (omega arith), word)
    (sym (unsigned-field-bytes c.args.bytes.now 8 c.args.skip c.args.width long (omega (arith, same, c.if-end-le64.true))))
