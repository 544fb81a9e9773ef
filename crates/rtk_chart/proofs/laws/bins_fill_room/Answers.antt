use Rattle.rtk_chart.proofs.WidthLemmas.{scale-fills, rows-long, columns-filled}
use Rattle.rtk_chart.proofs.laws.bins_fill_room.Goals as goal

pub returns-clause-scale : goal.returns-clause-scale
returns-clause-scale c = scale-fills

pub returns-clause-rows : goal.returns-clause-rows
returns-clause-rows c = rows-long

pub returns-clause-bands : goal.returns-clause-bands
returns-clause-bands c = columns-filled
