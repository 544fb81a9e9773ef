use Rattle.std.proofs.Common.{◌≡◌, ℕ, List, take, ap, ◌∙◌, arith}
use Rattle.std.specs.List.{fold}
use Rattle.rtk_message.specs.declared.system.System.TheVariants.{Gps}
use Rattle.rtk_rinex.specs.Record.{EpochTableView}
use Rattle.rtk_tracking.specs.Epochs.{newest_first}
use Rattle.rtk_chart.specs.Groups.{drawn_in_order}
use Rattle.rtk_chart.specs.MixedChart.{nothing_drawn, with_drawn_system, drawn_systems}
use Rattle.rtk_chart.specs.Steps.Pictures.{view_of}
use Rattle.rtk_chart.proofs.ListLemmas.{fold-taken}
use Rattle.rtk_chart.proofs.drawn.drawn_systems.Goals as goal

pub loop-system-init : goal.loop-system-init
loop-system-init c = λ t is text. c.new-all.ensures

pub loop-system-preserved : goal.loop-system-preserved
loop-system-preserved c = λ t is text.
    fold-taken (with_drawn_system c.args.drawing.now.scale c.args.width c.args.drawing.now.choice.now (newest_first t.epochs) c.args.listed.now) nothing_drawn
    (view_of c.loop-system.all) (view_of c.put_system.new.drawn) drawn_in_order c.loop-system.system-index Gps c.loop-system-test.true
    (c.loop-system.invariant t is text) (c.in_ok-put_system.ensures t is text)

pub returns : goal.returns
unfolding drawn_systems
returns c = λ t is text.
    let es : List EpochTableView = newest_first t.epochs in
    let end : c.loop-system.system-index ≡ 7 = omega (arith, c.loop-system.auto.system-index-end, c.loop-system-test.false) in
    c.loop-system.invariant t is text
    ∙ ap (λ (k : ℕ). fold (with_drawn_system c.args.drawing.now.scale c.args.width c.args.drawing.now.choice.now es c.args.listed.now) nothing_drawn (take k drawn_in_order)) end
