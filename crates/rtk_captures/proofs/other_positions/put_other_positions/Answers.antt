use Rattle.std.proofs.Common.{◌++◌, Option, ap, ◌∙◌}
use Rattle.rtk_captures.specs.OtherPositions.{all_other_positions}
use Rattle.rtk_survey.specs.declared.reference_point.ReferencePoint.{ReferencePoint}
use Rattle.rtk_captures.proofs.other_positions.put_other_positions.Goals as goal

pub returns : goal.returns
returns c =
    c.in_ok-put_all_other_positions.ensures
    ∙ ap (λ (p : Option ReferencePoint). c.args.lines.now.items ++ all_other_positions c.args.captures.now.names.now c.args.told.now p) c.position_of_links-first.ensures
