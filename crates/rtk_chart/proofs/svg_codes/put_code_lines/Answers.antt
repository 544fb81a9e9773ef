use Rattle.std.proofs.Common.{◌≤◌, ◌++◌, length, sym, ap, ◌∙◌, arith}
use Rattle.std.proofs.lemmas.List.{append-nil, drop_all}
use Rattle.rtk_chart.specs.SvgPicture.{code_lines}
use Rattle.rtk_chart.proofs.SvgLemmas.{codes-more}
use Rattle.rtk_chart.proofs.svg_codes.put_code_lines.Goals as goal

pub loop-at-preserved : goal.loop-at-preserved
loop-at-preserved c =
    codes-more c.args.names c.args.spacing c.args.bins.now c.args.place c.loop-at.at c.args.codes.now _ _ c.loop-at.text.items c.put_line_if_had.new.text.items
    c.loop-at-test.true c.loop-at.invariant c.in_ok-put_line_if_had.ensures

pub returns : goal.returns
returns c =
    let end : length c.args.codes.now ≤ c.loop-at.at = omega (arith, c.loop-at-test.false) in
    sym (c.loop-at.invariant ∙ ap (λ cs. c.loop-at.text.items ++ code_lines c.args.names c.args.spacing c.args.bins.now c.args.place c.loop-at.at cs) (drop_all c.loop-at.at c.args.codes.now end)
    ∙ append-nil c.loop-at.text.items)
