use Rattle.std.proofs.Common.{◌++◌, List, ℕ, Bool, ap, ◌∙◌}
use Rattle.rtk_survey.specs.BitMarks.{is_marked_in}
use Rattle.rtk_survey.specs.SummaryText.{indices_text}
use Rattle.rtk_survey.proofs.signal_lines.all_satellites_text.Goals as goal

pub returns : goal.returns
returns c =
    let other : ℕ → Bool = λ n. is_marked_in c.args.others.now.words n in
    c.in_ok-put_indices.ensures ∙ ap (λ (t : List ℕ). t ++ indices_text other) c.in_ok-text.ensures
