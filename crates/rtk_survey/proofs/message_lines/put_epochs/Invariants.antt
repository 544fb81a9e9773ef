use Rattle.std.proofs.Common.{◌≡◌, ◌++◌, take}
use Rattle.std.specs.Prelude.{flat_map, codes}
use Rattle.rtk_survey.specs.Steps.Tables.{system_epochs_held}
use Rattle.rtk_survey.specs.SummaryText.{numbered_line, beside_numbers}
use Rattle.rtk_survey.proofs.message_lines.put_epochs.Given as goal

abbrev pub invariant-loop-number : goal.invariant-loop-number
invariant-loop-number l =
    l.lines.items ≡ l.fn.lines.items ++ flat_map (λ n. numbered_line (codes " epochs ") n (system_epochs_held l.station n)) (take l.number-index beside_numbers)
