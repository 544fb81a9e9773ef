use Rattle.std.proofs.Common.{◌≡◌, ◌-◌, false, get_or}
use Rattle.std.specs.Prelude.{flat_map}
use Rattle.std.specs.List.{range_with_len}
use Rattle.rtk_survey.specs.SummaryText.{listed_satellite}
use Rattle.rtk_survey.proofs.signal_lines.satellites_text.Given as goal

abbrev pub invariant-loop-satellite : goal.invariant-loop-satellite
invariant-loop-satellite l = l.text.items ≡ flat_map (listed_satellite (λ n. get_or l.marks n false)) (range_with_len 1 (l.satellite - 1))
