use Rattle.std.proofs.Common.{◌++◌, List, ℕ, ap, ◌∙◌, codes}
use Rattle.rtk_survey.proofs.PublicLaws.{three-parts}
use Rattle.rtk_survey.proofs.ResultLemmas.{on-ok}
use Rattle.rtk_captures.specs.FarDateLines.{far_neighbour}
use Rattle.rtk_captures.specs.Lists.{line_end}
use Rattle.rtk_captures.specs.TimeText.{time_text}
use Rattle.rtk_captures.proofs.far_dates.put_far_neighbour.Goals as goal

pub returns : goal.returns
unfolding far_neighbour
returns c =
    let words : List ℕ = codes ": the message beside it is dated " in
    let time : List ℕ = time_text c.args.moment in
    on-ok c.end_line.result (λ e.
    e ∙ ap (λ (l : List ℕ). l ++ line_end) (c.in_ok-put_time_at.ensures ∙ ap (λ (l : List ℕ). l ++ time) c.in_ok-extend_from_slice.ensures.items)
    ∙ three-parts c.args.lines.now.items words time line_end) c.end_line.ensures
