-- Lines of numbers one after another.
use Rattle.std.proofs.Common.{◌≡◌, ◌+◌, ℕ, List, ◌++◌, sym, ap, ◌∙◌, add-one}
use Rattle.rtk_message.specs.declared.accepted.Accepted.{Accepted}
use Rattle.rtk_survey.specs.declared.survey.CaptureSurvey.{CaptureSurvey}
use Rattle.rtk_systems.specs.MessageLines.{unread_line, unread_lines_from}

pub numbered-step : (words : List ℕ) (taken : Accepted) (fs : List CaptureSurvey) (a b m k : ℕ) → m ≡ k + 1 → b ≡ a + 1
    → unread_lines_from words taken fs a m ≡ unread_line words taken fs a ++ unread_lines_from words taken fs b k
numbered-step words taken fs a b m k more next =
    ap (λ (n : ℕ). unread_lines_from words taken fs a n) (more ∙ add-one k)
    ∙ ap (λ (n : ℕ). unread_line words taken fs a ++ unread_lines_from words taken fs n k) (sym next)
