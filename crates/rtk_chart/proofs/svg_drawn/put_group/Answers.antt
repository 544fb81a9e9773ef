use Rattle.std.proofs.Common.{List, map, ◌∙◌}
use Rattle.rtk_rinex.specs.Record.{EpochTableView}
use Rattle.rtk_tracking.specs.Epochs.{newest_first}
use Rattle.rtk_chart.specs.Groups.{group_epochs}
use Rattle.rtk_chart.specs.SvgSystems.{lower_of}
use Rattle.rtk_chart.specs.Steps.SvgParts.{svg_view_of}
use Rattle.rtk_chart.proofs.SvgSystemLemmas.{svg-grid-is, drawn-is}
use Rattle.rtk_chart.proofs.svg_drawn.put_group.Goals as goal

pub returns-clause-value : goal.returns-clause-value
returns-clause-value c = λ t is text.
    let es : List EpochTableView = group_epochs c.args.drawing.now.choice.now c.args.group (newest_first t.epochs) in
    c.in_ok-is_drawn.ensures.value
    ∙ svg-grid-is c.args.drawing.now.scale c.args.system c.args.first c.args.codes.now c.as_slice.result.now c.as_slice-2.result.now c.args.group.names c.in_ok-read.read.grid es (svg_view_of c.args.drawn.now)
    (c.as_slice.ensures.value ∙ c.in_ok-listed.ensures.value) (c.in_ok-read.ensures.grid t is text) (c.as_slice-2.ensures.value ∙ c.in_ok-read.ensures.upper t is text)

pub returns-clause-drawn : goal.returns-clause-drawn
returns-clause-drawn c = λ t is text.
    c.in_ok-is_drawn.ensures.drawn
    ∙ drawn-is c.args.drawing.now.scale (map lower_of c.args.codes.now) c.in_ok-read.read.grid (group_epochs c.args.drawing.now.choice.now c.args.group (newest_first t.epochs)) (c.in_ok-read.ensures.grid t is text)
