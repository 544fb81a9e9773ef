use Rattle.rtk_convert.proofs.GpsLawsLemmas.{default-takes-four}
use Rattle.rtk_convert.proofs.laws.default_takes_four.Goals as goal

pub returns : goal.returns
returns c = default-takes-four c.decodes_by_four.ensures.same c.decodes_by_four.ensures.each
