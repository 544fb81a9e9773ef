use Rattle.std.proofs.Common.{List, ℕ, ap, ◌∙◌}
use Rattle.std.specs.List.{list_all}
use Rattle.rtk_survey.specs.Look.{is_hex_text}
use Rattle.rtk_survey.proofs.CutLemmas.{take-few}
use Rattle.rtk_survey.proofs.look.are_hex_text.Goals as goal

pub returns : goal.returns
returns c = c.all_hex_text.ensures ∙ ap (λ (t : List ℕ). list_all is_hex_text t) (take-few c.min-few.result 64 c.args.head.now c.min-few.ensures)
