use Rattle.std.proofs.Common.{◌∙◌}
use Rattle.rtk_tracking.specs.Epochs.{newest_first}
use Rattle.rtk_tracking.specs.SystemCodes.{codes_of_system}
use Rattle.rtk_chart.specs.Steps.Pictures.{view_of}
use Rattle.rtk_chart.proofs.MixedLemmas.{not-listed, some-listed}
use Rattle.rtk_chart.proofs.drawn.put_system.Goals as goal

pub returns-then-codes-eq0 : goal.returns-then-codes-eq0
returns-then-codes-eq0 c = λ t is text.
    not-listed c.args.drawing.now.scale c.args.width c.args.drawing.now.choice.now (newest_first t.epochs) c.args.system (codes_of_system c.args.system c.args.listed.now) c.as_slice-codes.result.now (view_of c.args.drawn.now)
    (c.as_slice-codes.ensures.value ∙ c.in_ok-own.ensures.value) c.if-codes-eq0.true

pub returns : goal.returns
returns c = λ t is text.
    c.in_ok-add_system.ensures
    ∙ some-listed c.args.drawing.now.scale c.args.width c.args.drawing.now.choice.now (newest_first t.epochs) c.args.system (codes_of_system c.args.system c.args.listed.now) c.as_slice-codes.result.now
    (view_of c.in_ok-more.more) (view_of c.args.drawn.now)
    (c.as_slice-codes.ensures.value ∙ c.in_ok-own.ensures.value) (λ none. c.if-codes-eq0.false none) (c.in_ok-more.ensures t is text)
