use Rattle.std.proofs.Common.{◌≤◌, ◌++◌, length, sym, ap, ◌∙◌, arith}
use Rattle.std.proofs.lemmas.List.{drop_all}
use Rattle.rtk_chart.specs.SvgStrip.{depths_text, depths_from}
use Rattle.rtk_chart.proofs.SvgLemmas.{depths-more}
use Rattle.rtk_chart.proofs.svg_strip.put_depths.Goals as goal

pub loop-bin-preserved : goal.loop-bin-preserved
loop-bin-preserved c =
    depths-more (length c.args.depths.now) c.loop-bin.bin c.edge-x.result c.args.depths.now c.loop-bin.was _ _ c.loop-bin.text.items c.put_depth_part.new.text.items
    c.loop-bin-test.true c.edge-x.ensures.value c.loop-bin.invariant c.in_ok-put_depth_part.ensures

pub returns : goal.returns
unfolding depths_text
returns c =
    let end : length c.args.depths.now ≤ c.loop-bin.bin = omega (arith, c.loop-bin-test.false) in
    c.in_ok-put_depth_part-2.ensures
    ∙ sym (c.loop-bin.invariant ∙ ap (λ ds. c.loop-bin.text.items ++ depths_from (length c.args.depths.now) c.loop-bin.bin c.loop-bin.was ds) (drop_all c.loop-bin.bin c.args.depths.now end))
