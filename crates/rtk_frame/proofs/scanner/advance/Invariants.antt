use Rattle.std.proofs.Common.{◌≤◌, ◌+◌, ◌*◌, ◌-◌, ◌++◌, length, take, drop}
use Rattle.rtk_frame.specs.Held.{RingHolds}
use Rattle.rtk_frame.specs.Steps.Scanning.{Scanned}
use Rattle.rtk_frame.proofs.scanner.advance.Given as goal

abbrev pub invariant-scan : goal.invariant-scan
invariant-scan l = record {
  held : RingHolds l.ring l.passed l.prefixes.items;
  used : l.used ≤ length l.piece;
  scanned : Scanned (drop l.fn.passed l.fn.ring.items ++ take l.used l.piece) (drop l.passed l.ring.items);
}

abbrev pub decreases-scan : goal.decreases-scan
decreases-scan l = 2 * (length l.piece - l.used) + (length l.ring.items - l.passed)
