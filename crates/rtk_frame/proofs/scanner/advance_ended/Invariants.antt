use Rattle.std.proofs.Common.{◌-◌, length, drop}
use Rattle.rtk_frame.specs.Held.{RingHolds}
use Rattle.rtk_frame.specs.Steps.Scanning.{Searched}
use Rattle.rtk_frame.proofs.scanner.advance_ended.Given as goal

abbrev pub invariant-loop-passed : goal.invariant-loop-passed
invariant-loop-passed l = record {
  held : RingHolds l.ring l.passed l.prefixes.items;
  searched : Searched (drop l.fn.passed l.fn.ring.items) (drop l.passed l.ring.items);
}

abbrev pub decreases-loop-passed : goal.decreases-loop-passed
decreases-loop-passed l = length l.ring.items - l.passed
