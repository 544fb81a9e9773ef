use Rattle.std.proofs.Common.{◌≤◌, ◌++◌, length, sym, ap, ◌∙◌, arith}
use Rattle.std.proofs.lemmas.List.{append-nil, drop_all}
use Rattle.rtk_chart.specs.SvgPicture.{never_texts}
use Rattle.rtk_chart.proofs.SvgLemmas.{nevers-more}
use Rattle.rtk_chart.proofs.svg_never.put_never_texts.Goals as goal

pub loop-at-preserved : goal.loop-at-preserved
loop-at-preserved c =
    nevers-more c.args.names c.args.bins.now c.args.top c.loop-at.at c.args.codes.now _ _ c.loop-at.text.items c.put_line_if_lacked.new.text.items
    c.loop-at-test.true c.loop-at.invariant c.in_ok-put_line_if_lacked.ensures

pub returns : goal.returns
returns c =
    let end : length c.args.codes.now ≤ c.loop-at.at = omega (arith, c.loop-at-test.false) in
    sym (c.loop-at.invariant ∙ ap (λ cs. c.loop-at.text.items ++ never_texts c.args.names c.args.bins.now c.args.top c.loop-at.at cs) (drop_all c.loop-at.at c.args.codes.now end)
    ∙ append-nil c.loop-at.text.items)
