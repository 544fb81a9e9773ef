use Rattle.std.proofs.Common.{List, ℕ, sym, ap, ◌∙◌}
use Rattle.std.specs.Prelude.{filter}
use Rattle.rtk_survey.specs.Proposal.{gives_value}
use Rattle.rtk_survey.specs.Contents.{epochs_so_far}
use Rattle.rtk_survey.proofs.MsmLemmas.{times-with, times-without}
use Rattle.rtk_survey.proofs.msm_parts.note_epoch.Goals as goal

pub returns-then-gives_value : goal.returns-then-gives_value
returns-then-gives_value c = λ ms was.
    let kind = c.args.kind in
    c.note_time_of.ensures (filter (gives_value kind) ms) was
    ∙ ap (λ (ts : List ℕ). epochs_so_far ts) (sym (times-with kind c.args.message.now ms (sym c.gives_value.ensures ∙ c.if-gives_value.true)))

pub returns-else-gives_value : goal.returns-else-gives_value
returns-else-gives_value c = λ ms was.
    was ∙ ap (λ (ts : List ℕ). epochs_so_far ts) (sym (times-without c.args.kind c.args.message.now ms (sym c.gives_value.ensures ∙ c.if-gives_value.false)))
