use Rattle.std.proofs.Common.{◌≡◌, drop}
use Rattle.rtk_commands.specs.Digests.{check_with}
use Rattle.rtk_commands.proofs.rereading.check_with.Given as goal

abbrev pub invariant-loop-byte : goal.invariant-loop-byte
invariant-loop-byte l = check_with l.check (drop l.byte-index l.part) ≡ check_with l.before l.part
