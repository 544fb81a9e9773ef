use Rattle.std.proofs.Common.{List, ℕ, ap, ◌∙◌}
use Rattle.std.specs.Prelude.{nat_eq}
use Rattle.std.specs.List.{starts_with}
use Rattle.rtk_survey.proofs.CutLemmas.{drop-few}
use Rattle.rtk_survey.proofs.FrameLemmas.{rest-is}
use Rattle.rtk_survey.proofs.look.has_label.Goals as goal

pub returns : goal.returns
returns c =
    c.starts_with.ensures.value
    ∙ ap (λ (t : List ℕ). starts_with nat_eq t c.args.label.now) (rest-is c.min-columns.result c.args.head.now ∙ drop-few c.min-columns.result 60 c.args.head.now c.min-columns.ensures)
