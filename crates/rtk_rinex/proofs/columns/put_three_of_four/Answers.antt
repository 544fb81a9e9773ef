use Rattle.std.proofs.Common.{◌∙◌}
use Rattle.rtk_rinex.proofs.ThreesLemmas.{three_columns, over-four}
use Rattle.rtk_rinex.proofs.columns.put_three_of_four.Goals as goal

pub returns : goal.returns
returns c = over-four c.args.field.now _ _ _ _ c.requires.columns ∙ three_columns c.args.number c.requires.number
