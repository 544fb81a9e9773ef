use Rattle.std.proofs.Common.{◌≡◌, take}
use Rattle.std.specs.List.{sum_by}
use Rattle.rtk_survey.specs.Counting.{shown_count}
use Rattle.rtk_systems.specs.ClockOffsets.{count_if_ahead}
use Rattle.rtk_systems.proofs.clock_offsets.ahead_in_list.Given as goal

abbrev pub invariant-loop-offset : goal.invariant-loop-offset
invariant-loop-offset l = l.count ≡ shown_count (sum_by (count_if_ahead l.ahead) (take l.offset-index l.offsets))
