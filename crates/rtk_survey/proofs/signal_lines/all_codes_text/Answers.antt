use Rattle.std.proofs.Common.{◌++◌, List, ℕ, Bool, ap, ◌∙◌}
use Rattle.rtk_obs.specs.declared.any_code.AnyCode.{AnyCode}
use Rattle.rtk_obs.specs.AnyCode.{number_of}
use Rattle.rtk_survey.specs.BitMarks.{is_marked_in}
use Rattle.rtk_survey.specs.SummaryText.{any_codes_text, all_codes_text}
use Rattle.rtk_survey.proofs.signal_lines.all_codes_text.Goals as goal

pub returns : goal.returns
unfolding all_codes_text
returns c =
    let other : AnyCode → Bool = λ code. is_marked_in c.args.others.now.words (number_of code) in
    c.in_ok-put_any_codes.ensures ∙ ap (λ (t : List ℕ). t ++ any_codes_text t other) c.in_ok-text.ensures
