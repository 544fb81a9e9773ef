use Rattle.std.proofs.Common.{◌≤◌, ◌++◌, length, sym, ap, ◌∙◌, arith}
use Rattle.std.proofs.lemmas.List.{drop_all}
use Rattle.rtk_chart.specs.SvgPath.{runs_text, runs_from}
use Rattle.rtk_chart.proofs.SvgLemmas.{runs-more}
use Rattle.rtk_chart.proofs.svg_path.put_runs.Goals as goal

pub loop-bin-preserved : goal.loop-bin-preserved
loop-bin-preserved c =
    runs-more c.args.begin.now c.args.end.now (length c.args.flags.now) c.loop-bin.bin c.edge-x.result c.args.flags.now c.loop-bin.was _ _ c.loop-bin.text.items c.put_run_part.new.text.items
    c.loop-bin-test.true c.edge-x.ensures.value c.loop-bin.invariant c.in_ok-put_run_part.ensures

pub returns : goal.returns
unfolding runs_text
returns c =
    let end : length c.args.flags.now ≤ c.loop-bin.bin = omega (arith, c.loop-bin-test.false) in
    c.in_ok-put_run_part-2.ensures
    ∙ sym (c.loop-bin.invariant ∙ ap (λ bs. c.loop-bin.text.items ++ runs_from c.args.begin.now c.args.end.now (length c.args.flags.now) c.loop-bin.bin c.loop-bin.was bs) (drop_all c.loop-bin.bin c.args.flags.now end))
