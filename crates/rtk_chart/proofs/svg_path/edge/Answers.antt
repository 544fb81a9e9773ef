use Rattle.rtk_chart.proofs.SvgLemmas.{edge-bound}
use Rattle.rtk_chart.proofs.svg_path.edge.Goals as goal

pub returns-clause-bound : goal.returns-clause-bound
returns-clause-bound c = edge-bound c.args.bins c.args.bin c.requires.some c.requires.within
