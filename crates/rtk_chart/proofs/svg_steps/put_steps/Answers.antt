use Rattle.std.proofs.Common.{◌≤◌, ◌++◌, ℕ, length, sym, ap, ◌∙◌, arith}
use Rattle.std.proofs.lemmas.List.{append-nil, drop_all}
use Rattle.rtk_chart.specs.SvgPath.{steps_text, steps_from}
use Rattle.rtk_chart.proofs.SvgLemmas.{steps-more}
use Rattle.rtk_chart.proofs.svg_steps.put_steps.Goals as goal

pub loop-bin-preserved : goal.loop-bin-preserved
loop-bin-preserved c =
    steps-more c.args.most (length c.args.counts.now) c.loop-bin.bin c.edge.result c.loop-bin.was c.from-now.result c.args.counts.now _ _ c.loop-bin.text.items c.put_step_part.new.text.items
    c.loop-bin-test.true c.edge.ensures.value c.from-now.ensures c.loop-bin.invariant c.in_ok-put_step_part.ensures

pub returns : goal.returns
unfolding steps_text
returns c =
    let end : length c.args.counts.now ≤ c.loop-bin.bin = omega (arith, c.loop-bin-test.false) in
    sym (c.loop-bin.invariant ∙ ap (λ bs. c.loop-bin.text.items ++ steps_from c.args.most (length c.args.counts.now) c.loop-bin.bin c.loop-bin.was bs) (drop_all c.loop-bin.bin c.args.counts.now end)
    ∙ append-nil c.loop-bin.text.items)
    ∙ ap (λ (k : ℕ). c.args.text.now.items ++ steps_from k (length c.args.counts.now) 0 0 c.args.counts.now) c.requires.most
