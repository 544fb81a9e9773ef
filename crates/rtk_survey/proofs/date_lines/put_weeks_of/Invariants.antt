use Rattle.std.proofs.Common.{◌≡◌, ◌++◌}
use Rattle.std.specs.Prelude.{flat_map}
use Rattle.std.specs.List.{range_with_len}
use Rattle.rtk_survey.specs.Contents.{count_at}
use Rattle.rtk_survey.specs.SummaryText.{system_week_line}
use Rattle.rtk_survey.proofs.date_lines.put_weeks_of.Given as goal

abbrev pub invariant-loop-week : goal.invariant-loop-week
invariant-loop-week l =
    l.lines.items ≡ l.fn.lines.items ++ flat_map (λ w. system_week_line l.number w (count_at l.weeks w)) (range_with_len 0 l.week)
