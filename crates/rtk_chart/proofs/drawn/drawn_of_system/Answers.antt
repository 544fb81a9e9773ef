use Rattle.std.proofs.Common.{List, ap, ◌∙◌}
use Rattle.rtk_obs.specs.declared.any_code.AnyCode.{AnyCode}
use Rattle.rtk_rinex.specs.Record.{EpochTableView}
use Rattle.rtk_tracking.specs.Epochs.{newest_first}
use Rattle.rtk_chart.specs.Groups.{first_group, second_group}
use Rattle.rtk_chart.specs.MixedChart.{DrawnView, with_group, with_group_if_any}
use Rattle.rtk_chart.specs.Steps.Pictures.{view_of}
use Rattle.rtk_chart.specs.declared.groups.Group.{Group}
use Rattle.rtk_chart.proofs.drawn.drawn_of_system.Goals as goal

pub returns : goal.returns
returns c = λ t is text.
    let es : List EpochTableView = newest_first t.epochs in
    let codes : List AnyCode = c.args.codes.now in
    let one : Group → DrawnView → DrawnView = λ g d. with_group c.args.drawing.now.scale c.args.width c.args.drawing.now.choice.now es codes g d in
    let other : Group → DrawnView → DrawnView = λ g d. with_group_if_any c.args.drawing.now.scale c.args.width c.args.drawing.now.choice.now es codes g d in
    let d0 : DrawnView = view_of c.new-drawn.result in
    let d1 : DrawnView = view_of c.put_group.new.drawn in
    c.in_ok-put_group_if_any.ensures t is text
    ∙ ap (λ (g : Group). other g d1) c.second_group-second.ensures.value
    ∙ ap (λ (d : DrawnView). other (second_group c.args.system) d)
    (c.in_ok-put_group.ensures t is text ∙ ap (λ (g : Group). one g d0) c.first_group-first.ensures.value ∙ ap (λ (d : DrawnView). one (first_group c.args.system) d) c.new-drawn.ensures)
