use Rattle.std.proofs.Common.{ap, ◌∙◌}
use Rattle.rtk_label.specs.Labelled.{LabelView}
use Rattle.rtk_compare.specs.Labels.{label_lines}
use Rattle.rtk_compare.proofs.FindingLemmas.{adds-as}
use Rattle.rtk_compare.proofs.labels.compare_labels.Goals as goal

pub returns : goal.returns
returns c =
    adds-as (ap (λ (l : LabelView). label_lines l c.parts-new_parts.result) c.parts-old_parts.ensures.value ∙ ap (λ (l : LabelView). label_lines c.args.old.now l) c.parts-new_parts.ensures.value) c.compare_parts.ensures
