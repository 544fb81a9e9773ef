use Rattle.std.proofs.Common.{◌≡◌, ◌+◌, ℕ, List, length, take, arith, sym, ◌∙◌, ap}
use Rattle.rtk_frame.specs.Checksum.{crc}
use Rattle.rtk_frame.proofs.Parts.{crc_lt}
use Rattle.rtk_frame.proofs.PrefixLemmas.{prefixes_more, take_next}
use Rattle.rtk_frame.proofs.prefixes.know_prefix.Goals as goal

pub checksum_with-checksum-requires : goal.checksum_with-checksum-requires
checksum_with-checksum-requires c = omega (arith, c.loop-known.invariant.checksum, crc_lt (take c.loop-known.known c.args.bytes.now))

pub loop-known-preserved : goal.loop-known-preserved
loop-known-preserved c =
    let k : ℕ = c.loop-known.known in
    let b : List ℕ = c.args.bytes.now in
    let cs : List ℕ = c.loop-known.prefixes.items in
    let sum = c.checksum_with-checksum.ensures.value (take k b) c.loop-known.invariant.checksum ∙ ap crc (sym (take_next b k (omega arith))) in
    let e : k + 1 ≡ length cs = c.loop-known.invariant.known in
    record {
      known = omega (arith, c.push.ensures.len);
      checksum = sum;
      prefixes = rw c.push.ensures.items (prefixes_more cs b c.checksum_with-checksum.result (omega arith) (sum ∙ ap (λ n. crc (take n b)) e) c.loop-known.invariant.prefixes);
    }
