use Rattle.std.proofs.Common.{◌≡◌, ◌<◌, ◌+◌, ◌-◌, ◌^◌}
use Rattle.rtk_bits.specs.Bits.{bits_of}
use Rattle.rtk_frame.proofs.Parts.{products}
use Rattle.rtk_frame.proofs.checksum.product.Given as goal

abbrev pub invariant-loop-place : goal.invariant-loop-place
invariant-loop-place l = record {
  sum : products l.right (bits_of (24 - l.place) l.left) l.sum ≡ products l.right (bits_of 24 l.left) 0;
  small : l.sum < 2 ^ (24 + l.place);
}
