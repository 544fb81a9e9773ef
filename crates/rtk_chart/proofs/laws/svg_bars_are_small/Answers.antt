use Rattle.rtk_chart.proofs.BytesLemmas.{bars-small, no-bar-larger}
use Rattle.rtk_chart.proofs.BandsLemmas.{bands-small}
use Rattle.rtk_chart.proofs.laws.svg_bars_are_small.Goals as goal

pub returns : goal.returns
returns c = record { forms = bars-small; most = no-bar-larger; bands = bands-small }
