use Rattle.std.proofs.Common.{◌≤◌, ◌++◌, length, sym, ap, ◌∙◌, arith}
use Rattle.std.proofs.lemmas.List.{append-nil, drop_all}
use Rattle.rtk_chart.specs.Groups.{title_of}
use Rattle.rtk_chart.specs.TextPicture.{all_never_lines}
use Rattle.rtk_chart.proofs.ListLemmas.{never-more}
use Rattle.rtk_chart.proofs.never.put_never_of_system.Goals as goal

pub loop-at-preserved : goal.loop-at-preserved
loop-at-preserved c =
    never-more title_of c.args.names c.args.bins.now c.args.in_line c.loop-at.at c.args.codes.now _ _ c.loop-at.text.items c.put_titled.new.text.items
    c.loop-at-test.true c.loop-at.invariant c.in_ok-put_titled.ensures

pub returns : goal.returns
returns c =
    let end : length c.args.codes.now ≤ c.loop-at.at = omega (arith, c.loop-at-test.false) in
    sym (c.loop-at.invariant
    ∙ ap (λ cs. c.loop-at.text.items ++ all_never_lines title_of c.args.names c.args.bins.now c.args.in_line c.loop-at.at cs) (drop_all c.loop-at.at c.args.codes.now end)
    ∙ append-nil c.loop-at.text.items)
