use Rattle.std.proofs.Common.{◌≡◌, ◌+◌, ◌-◌, length, take}
use Rattle.rtk_frame.specs.Checksum.{crc}
use Rattle.rtk_frame.specs.Prefixes.{ArePrefixChecksums}
use Rattle.rtk_frame.proofs.prefixes.know_prefix.Given as goal

abbrev pub invariant-loop-known : goal.invariant-loop-known
invariant-loop-known l = record {
  known : l.known + 1 ≡ length l.prefixes.items;
  checksum : l.checksum ≡ crc (take l.known l.bytes);
  prefixes : ArePrefixChecksums l.prefixes.items l.bytes;
}

abbrev pub decreases-loop-known : goal.decreases-loop-known
decreases-loop-known l = l.count - l.known
