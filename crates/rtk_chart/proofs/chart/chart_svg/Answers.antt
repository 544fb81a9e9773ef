use Rattle.std.proofs.Common.{List, ap, ◌∙◌}
use Rattle.rtk_rinex.specs.Record.{EpochTableView}
use Rattle.rtk_tracking.specs.Epochs.{newest_first}
use Rattle.rtk_tracking.specs.Interval.{interval_of_file}
use Rattle.rtk_chart.specs.Chart.{svg_of_epochs}
use Rattle.rtk_chart.proofs.ChoiceLemmas.{all-chosen}
use Rattle.rtk_chart.proofs.chart.chart_svg.Goals as goal

pub returns : goal.returns
returns c = λ t is file.
    c.in_ok-svg.ensures t is file
    ∙ ap (λ (es : List EpochTableView). svg_of_epochs t.head.marker t.head.listed t.first (interval_of_file t) es) (all-chosen (newest_first t.epochs))
