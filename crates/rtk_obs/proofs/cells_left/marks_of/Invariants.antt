use Rattle.std.proofs.Common.{◌≡◌, length, take}
use Rattle.rtk_obs.specs.Steps.Marks.{HasMarks}
use Rattle.rtk_obs.proofs.cells_left.marks_of.Given as goal

abbrev pub invariant-loop-entry : goal.invariant-loop-entry
invariant-loop-entry l = record {
  places : length l.marks ≡ 512;
  marks : HasMarks l.marks (take l.entry-index l.cells);
}
