use Rattle.std.proofs.Common.{◌≡◌, Bool, not, List, true, ap, ◌∙◌}
use Rattle.rtk_rinex.specs.Record.{EpochTableView}
use Rattle.rtk_tracking.specs.Epochs.{newest_first}
use Rattle.rtk_chart.specs.Groups.{first_group}
use Rattle.rtk_chart.specs.SvgSystems.{SvgView, is_group_drawn, with_svg_group}
use Rattle.rtk_chart.specs.Steps.SvgParts.{svg_view_of}
use Rattle.rtk_chart.specs.declared.groups.Group.{Group}
use Rattle.rtk_chart.proofs.SvgSystemLemmas.{second-none, second-some}
use Rattle.rtk_chart.proofs.svg_drawn.put_groups.Goals as goal

pub returns-then-second-eq0-clause-value : goal.returns-then-second-eq0-clause-value
returns-then-second-eq0-clause-value c = λ t is text.
    let es : List EpochTableView = newest_first t.epochs in
    c.in_ok-is_drawn.ensures.value t is text
    ∙ ap (λ (g : Group). with_svg_group c.args.drawing.now.scale c.args.drawing.now.choice.now es c.args.system true c.args.codes.now g (svg_view_of c.args.drawn.now)) c.first_group-first.ensures.value
    ∙ second-none c.args.drawing.now.scale c.args.drawing.now.choice.now es c.args.system c.args.codes.now c.second_group-second.result
    (with_svg_group c.args.drawing.now.scale c.args.drawing.now.choice.now es c.args.system true c.args.codes.now (first_group c.args.system) (svg_view_of c.args.drawn.now))
    c.second_group-second.ensures.value c.if-second-eq0.true

pub returns-clause-value : goal.returns-clause-value
returns-clause-value c = λ t is text.
    let es : List EpochTableView = newest_first t.epochs in
    let one : Group → SvgView = λ g. with_svg_group c.args.drawing.now.scale c.args.drawing.now.choice.now es c.args.system true c.args.codes.now g (svg_view_of c.args.drawn.now) in
    let before : svg_view_of c.put_group.new.drawn ≡ one (first_group c.args.system) = c.in_ok-is_drawn.ensures.value t is text ∙ ap one c.first_group-first.ensures.value in
    let drawn : c.in_ok-is_drawn.is_drawn ≡ is_group_drawn c.args.drawing.now.scale c.args.drawing.now.choice.now es (first_group c.args.system) =
    c.in_ok-is_drawn.ensures.drawn t is text ∙ ap (λ (g : Group). is_group_drawn c.args.drawing.now.scale c.args.drawing.now.choice.now es g) c.first_group-first.ensures.value in
    c.in_ok-_drawn.ensures.value t is text
    ∙ second-some c.args.drawing.now.scale c.args.drawing.now.choice.now es c.args.system c.args.codes.now c.second_group-second.result (not c.in_ok-is_drawn.is_drawn) (svg_view_of c.put_group.new.drawn)
    (one (first_group c.args.system)) c.second_group-second.ensures.value c.if-second-eq0.false (ap (λ (b : Bool). not b) drawn) before
