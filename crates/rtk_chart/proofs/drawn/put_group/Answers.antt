use Rattle.std.proofs.Common.{◌∙◌}
use Rattle.rtk_tracking.specs.Epochs.{newest_first}
use Rattle.rtk_chart.specs.Groups.{group_epochs}
use Rattle.rtk_chart.specs.Steps.Pictures.{view_of}
use Rattle.rtk_chart.proofs.MixedLemmas.{grid-is}
use Rattle.rtk_chart.proofs.drawn.put_group.Goals as goal

pub returns : goal.returns
returns c = λ t is text.
    c.in_ok-add_grid.ensures
    ∙ grid-is c.args.drawing.now.scale c.args.width c.args.codes.now c.args.group.names c.in_ok-grid.grid (group_epochs c.args.drawing.now.choice.now c.args.group (newest_first t.epochs)) (view_of c.args.drawn.now)
    (c.in_ok-grid.ensures.grid t is text)
