use Rattle.std.proofs.Common.{◌≡◌, ◌++◌, take}
use Rattle.std.specs.Prelude.{flat_map, codes}
use Rattle.rtk_survey.specs.Contents.{count_at}
use Rattle.rtk_survey.specs.SummaryText.{numbered_line, untaken_numbers}
use Rattle.rtk_survey.proofs.lines.put_untaken.Given as goal

abbrev pub invariant-loop-number : goal.invariant-loop-number
invariant-loop-number l =
    l.lines.items ≡ l.fn.lines.items ++ flat_map (λ n. numbered_line (codes "untaken GPS ") n (count_at l.others n)) (take l.number-index untaken_numbers)
