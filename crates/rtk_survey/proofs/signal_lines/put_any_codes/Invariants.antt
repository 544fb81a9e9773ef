use Rattle.std.proofs.Common.{◌≡◌, ◌++◌, drop}
use Rattle.std.specs.Prelude.{filter}
use Rattle.rtk_obs.specs.AnyCode.{number_of, all_any_codes}
use Rattle.rtk_survey.specs.BitMarks.{is_marked_in}
use Rattle.rtk_survey.specs.SummaryText.{joined_texts, separator_behind}
use Rattle.rtk_survey.proofs.signal_lines.put_any_codes.Given as goal

-- the names so far and those of the codes that are left are the names of all
abbrev pub invariant-loop-code : goal.invariant-loop-code
invariant-loop-code l =
    l.names.items ++ joined_texts l.separator (filter (λ c. is_marked_in l.marks.words (number_of c)) (drop l.code-index all_any_codes))
    ≡ l.fn.names.items ++ joined_texts (separator_behind l.fn.names.items) (filter (λ c. is_marked_in l.marks.words (number_of c)) all_any_codes)
