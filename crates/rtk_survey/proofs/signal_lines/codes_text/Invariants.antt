use Rattle.std.proofs.Common.{◌≡◌, ◌++◌, false, drop, get_or}
use Rattle.std.specs.Prelude.{filter}
use Rattle.rtk_obs.specs.Code.{place_of, all_codes}
use Rattle.rtk_survey.specs.SummaryText.{joined_names}
use Rattle.rtk_survey.proofs.signal_lines.codes_text.Given as goal

-- the names so far and those of the codes that are left are the names of all
abbrev pub invariant-loop-code : goal.invariant-loop-code
invariant-loop-code l =
    l.text.items ++ joined_names l.separator (filter (λ c. get_or l.marks (place_of c) false) (drop l.code-index all_codes))
    ≡ joined_names 32 (filter (λ c. get_or l.marks (place_of c) false) all_codes)
