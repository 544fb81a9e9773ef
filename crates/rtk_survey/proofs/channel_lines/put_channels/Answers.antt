use Rattle.std.proofs.Common.{◌++◌, ◌∙◌, List, ℕ, ap}
use Rattle.std.specs.Prelude.{codes}
use Rattle.rtk_survey.specs.SummaryText.{line_if_some, channel_line}
use Rattle.rtk_survey.proofs.ResultLemmas.{on-ok}
use Rattle.rtk_survey.proofs.channel_lines.put_channels.Goals as goal

pub returns : goal.returns
unfolding channel_line
returns c = on-ok c.put_line_if_some.result
    (λ put. put ∙ ap (λ (t : List ℕ). c.args.lines.now.items ++ line_if_some (codes " channels") t) (c.as_slice.ensures.value ∙ c.in_ok-text.ensures))
    c.put_line_if_some.ensures
