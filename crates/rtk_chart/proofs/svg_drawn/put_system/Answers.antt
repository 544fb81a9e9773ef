use Rattle.std.proofs.Common.{◌∙◌}
use Rattle.rtk_tracking.specs.Epochs.{newest_first}
use Rattle.rtk_tracking.specs.SystemCodes.{codes_of_system}
use Rattle.rtk_chart.specs.Steps.SvgParts.{svg_view_of}
use Rattle.rtk_chart.proofs.SvgSystemLemmas.{svg-not-listed, svg-listed}
use Rattle.rtk_chart.proofs.svg_drawn.put_system.Goals as goal

pub returns-then-codes-eq0-clause-value : goal.returns-then-codes-eq0-clause-value
returns-then-codes-eq0-clause-value c = λ t is text.
    svg-not-listed c.args.drawing.now.scale c.args.drawing.now.choice.now (newest_first t.epochs) c.args.system (codes_of_system c.args.system c.args.listed.now) c.as_slice-codes.result.now (svg_view_of c.args.drawn.now)
    (c.as_slice-codes.ensures.value ∙ c.in_ok-own.ensures.value) c.if-codes-eq0.true

pub returns-clause-value : goal.returns-clause-value
returns-clause-value c = λ t is text.
    svg-listed c.args.drawing.now.scale c.args.drawing.now.choice.now (newest_first t.epochs) c.args.system (codes_of_system c.args.system c.args.listed.now) c.as_slice-codes.result.now (svg_view_of c.args.drawn.now) _
    (c.as_slice-codes.ensures.value ∙ c.in_ok-own.ensures.value) (λ none. c.if-codes-eq0.false none) (c.in_ok-put_groups.ensures.value t is text)
