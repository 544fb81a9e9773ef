use Rattle.std.proofs.Common.{◌≤◌, ◌++◌, length, sym, ap, ◌∙◌, arith}
use Rattle.std.proofs.lemmas.List.{append-nil, drop_all}
use Rattle.rtk_chart.specs.SvgPath.{marks_text, marks_from}
use Rattle.rtk_chart.proofs.SvgLemmas.{marks-more}
use Rattle.rtk_chart.proofs.svg_path.put_marks.Goals as goal

pub loop-bin-preserved : goal.loop-bin-preserved
loop-bin-preserved c =
    marks-more c.args.form.now (length c.args.flags.now) c.loop-bin.bin c.middle.result c.args.flags.now _ _ c.loop-bin.text.items c.put_mark_part.new.text.items
    c.loop-bin-test.true c.middle.ensures c.loop-bin.invariant c.in_ok-put_mark_part.ensures

pub returns : goal.returns
unfolding marks_text
returns c =
    let end : length c.args.flags.now ≤ c.loop-bin.bin = omega (arith, c.loop-bin-test.false) in
    sym (c.loop-bin.invariant ∙ ap (λ bs. c.loop-bin.text.items ++ marks_from c.args.form.now (length c.args.flags.now) c.loop-bin.bin bs) (drop_all c.loop-bin.bin c.args.flags.now end)
    ∙ append-nil c.loop-bin.text.items)
