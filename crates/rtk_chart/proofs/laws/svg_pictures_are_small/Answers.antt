use Rattle.rtk_chart.proofs.RestLemmas.{pictures-small, days-small}
use Rattle.rtk_chart.proofs.laws.svg_pictures_are_small.Goals as goal

pub returns : goal.returns
returns c = record { parts = pictures-small; day = days-small }
