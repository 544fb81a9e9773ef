use Rattle.std.proofs.Common.{◌≡◌, ◌++◌, take}
use Rattle.std.specs.Prelude.{flat_map, codes}
use Rattle.rtk_survey.specs.Steps.Tables.{messages_held}
use Rattle.rtk_survey.specs.SummaryText.{numbered_line, message_numbers}
use Rattle.rtk_survey.proofs.message_lines.put_messages.Given as goal

abbrev pub invariant-loop-number : goal.invariant-loop-number
invariant-loop-number l =
    l.lines.items ≡ l.fn.lines.items ++ flat_map (λ n. numbered_line (codes " message ") n (messages_held l.station n)) (take l.number-index message_numbers)
