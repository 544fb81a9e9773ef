use Rattle.std.proofs.Common.{◌≡◌, ◌++◌}
use Rattle.std.specs.Prelude.{flat_map}
use Rattle.std.specs.List.{range_with_len}
use Rattle.rtk_survey.specs.Contents.{count_at}
use Rattle.rtk_survey.specs.SummaryText.{numbered_line}
use Rattle.rtk_survey.proofs.lines.put_table.Given as goal

abbrev pub invariant-loop-number : goal.invariant-loop-number
invariant-loop-number l =
    l.lines.items ≡ l.fn.lines.items ++ flat_map (λ n. numbered_line l.words n (count_at l.counts n)) (range_with_len 0 l.number)
