use Rattle.std.proofs.Common.{◌≡◌, ℕ, List, length, take, ap, ◌∙◌, arith}
use Rattle.std.proofs.lemmas.List.{length-replicate}
use Rattle.std.specs.List.{fold}
use Rattle.rtk_message.specs.declared.system.System.TheVariants.{Gps}
use Rattle.rtk_rinex.specs.Record.{EpochTableView}
use Rattle.rtk_tracking.specs.Epochs.{newest_first}
use Rattle.rtk_chart.specs.Groups.{drawn_in_order}
use Rattle.rtk_chart.specs.SvgSystems.{SvgView, nothing_in_svg, with_svg_system, svg_of_systems}
use Rattle.rtk_chart.specs.Steps.SvgParts.{svg_view_of}
use Rattle.rtk_chart.proofs.ListLemmas.{fold-taken}
use Rattle.rtk_chart.proofs.svg_drawn.svg_of_systems.Goals as goal

pub loop-system-init : goal.loop-system-init
loop-system-init c =
    let top : c.in_ok-all.all.top ≡ 106 = ap (λ (v : SvgView). v.top) c.in_ok-all.ensures in
    let lines : c.in_ok-all.all.lines ≡ 0 = ap (λ (v : SvgView). v.lines) c.in_ok-all.ensures in
    record {
      value = λ t is text. c.in_ok-all.ensures;
      top = omega (arith, top);
      lines = omega (arith, lines);
      bins = ap (λ (v : SvgView). length v.tracked) c.in_ok-all.ensures ∙ length-replicate c.args.drawing.now.scale.bins 0;
    }

pub loop-system-preserved : goal.loop-system-preserved
loop-system-preserved c = record {
  value = λ t is text.
      fold-taken (with_svg_system c.args.drawing.now.scale c.args.drawing.now.choice.now (newest_first t.epochs) c.args.listed.now) (nothing_in_svg c.args.drawing.now.scale.bins)
      (svg_view_of c.loop-system.all) (svg_view_of c.put_system.new.drawn) drawn_in_order c.loop-system.system-index Gps c.loop-system-test.true
      (c.loop-system.invariant.value t is text) (c.in_ok-put_system.ensures.value t is text);
  top = omega (arith, c.loop-system.invariant.top, c.put_system.ensures.top);
  lines = omega (arith, c.loop-system.invariant.lines, c.put_system.ensures.lines);
  bins = c.in_ok-put_system.ensures.bins ∙ c.loop-system.invariant.bins;
}

pub returns-clause-value : goal.returns-clause-value
unfolding svg_of_systems
returns-clause-value c = λ t is text.
    let es : List EpochTableView = newest_first t.epochs in
    let end : c.loop-system.system-index ≡ 7 = omega (arith, c.loop-system.auto.system-index-end, c.loop-system-test.false) in
    c.loop-system.invariant.value t is text
    ∙ ap (λ (k : ℕ). fold (with_svg_system c.args.drawing.now.scale c.args.drawing.now.choice.now es c.args.listed.now) (nothing_in_svg c.args.drawing.now.scale.bins) (take k drawn_in_order)) end
