use Rattle.rtk_chart.proofs.SvgSystemLemmas.{fresh-svg}
use Rattle.rtk_chart.proofs.svg_drawn.SvgDrawn.new.Goals as goal

pub returns : goal.returns
returns c =
    fresh-svg c.args.bins c.new.result.items c.new-2.result.items c.none-3.result c.in_ok-tracked.tracked.items c.in_ok-lower.lower.items c.in_ok-upper.upper.items c.none.result c.none-2.result
    c.new.ensures.items c.new-2.ensures.items c.none-3.ensures (c.in_ok-tracked.ensures.items_if_clones_equal (λ y same. same))
    (c.in_ok-lower.ensures.items_if_clones_equal (λ y same. same)) c.none.ensures (c.in_ok-upper.ensures.items_if_clones_equal (λ y same. same)) c.none-2.ensures
