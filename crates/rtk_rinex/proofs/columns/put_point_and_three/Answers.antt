use Rattle.std.proofs.Common.{◌∙◌}
use Rattle.rtk_rinex.proofs.ThreesLemmas.{point_columns, over-four}
use Rattle.rtk_rinex.proofs.columns.put_point_and_three.Goals as goal

pub returns : goal.returns
returns c = over-four c.args.field.now _ _ _ _ c.requires.columns ∙ point_columns c.args.number c.requires.number
