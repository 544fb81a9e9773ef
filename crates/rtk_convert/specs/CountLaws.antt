-- A law on the counts of found frames, newest first.
use Rattle.std.specs.Prelude.{◌≡◌, ◌<◌, ◌+◌, ◌^◌, ℕ, List, length}
use Rattle.rtk_setup.specs.declared.counts.Counts.{Counts}
use Rattle.rtk_convert.specs.FrameClass.{Found}
use Rattle.rtk_convert.specs.Finish.{all_counts}
use Rattle.rtk_setup.specs.Setup.{SetupView}

-- the sum of the seven counts that tell what became of frames
abbrev pub in_classes : Counts → ℕ
in_classes c = c.other + c.refused + c.foreign + c.taken + c.repeat + c.conflict + c.late

-- these are counts of n frames, each in one of the seven
pub record AreCountsOf (frames : ℕ) (c : Counts) : Type 0 where
  pub frames_are : c.frames ≡ frames
  pub classes_are : in_classes c ≡ frames

-- the counts of found frames are such counts, if a count can hold the number of the frames
abbrev pub EachFrameInOneClass : Type 0
EachFrameInOneClass = (s : SetupView) (found : List Found) → length found < 2 ^ 64 → AreCountsOf (length found) (all_counts s found)
