use Rattle.rtk_chart.proofs.SizeLemmas.{svg-has-its-height, days-fit-screen, none-is-higher}
use Rattle.rtk_chart.proofs.laws.svg_heights_are_of_what_is_drawn.Goals as goal

pub returns : goal.returns
returns c = record { height = svg-has-its-height; screen = days-fit-screen; most = none-is-higher }
