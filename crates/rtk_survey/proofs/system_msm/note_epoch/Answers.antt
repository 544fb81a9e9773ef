use Rattle.std.proofs.Common.{List, ℕ, sym, ap, ◌∙◌}
use Rattle.std.specs.Prelude.{filter}
use Rattle.rtk_survey.specs.BesideGps.{gives_value_beside}
use Rattle.rtk_survey.specs.Contents.{epochs_so_far}
use Rattle.rtk_survey.proofs.SystemLemmas.{times-with-value, times-without-value}
use Rattle.rtk_survey.proofs.system_msm.note_epoch.Goals as goal

pub returns-then-gives_value : goal.returns-then-gives_value
returns-then-gives_value c = λ ms was.
    c.note_told_time.ensures (filter gives_value_beside ms) was
    ∙ ap (λ (ts : List ℕ). epochs_so_far ts) (sym (times-with-value c.args.message.now ms (sym c.gives_value.ensures ∙ c.if-gives_value.true)))

pub returns-else-gives_value : goal.returns-else-gives_value
returns-else-gives_value c = λ ms was.
    was ∙ ap (λ (ts : List ℕ). epochs_so_far ts) (sym (times-without-value c.args.message.now ms (sym c.gives_value.ensures ∙ c.if-gives_value.false)))
