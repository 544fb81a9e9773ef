use Rattle.std.proofs.Common.{◌≤◌, ◌++◌, length, sym, ap, ◌∙◌, arith}
use Rattle.std.proofs.lemmas.List.{append-nil, drop_all}
use Rattle.rtk_quality.specs.Never.{rows_from, never_rows}
use Rattle.rtk_quality.proofs.NeverLemmas.{rows-more}
use Rattle.rtk_quality.proofs.never.put_never_rows.Goals as goal

pub loop-at-preserved : goal.loop-at-preserved
loop-at-preserved c = λ most interval es stand.
    rows-more most interval es c.loop-at.at c.args.codes.now _ _ c.loop-at.text.items c.put_never_row.new.text.items
    c.loop-at-test.true (c.loop-at.invariant most interval es stand) (c.in_ok-put_never_row.ensures most interval es stand)

pub returns : goal.returns
unfolding never_rows
returns c = λ most interval es stand.
    let end : length c.args.codes.now ≤ c.loop-at.at = omega (arith, c.loop-at-test.false) in
    sym (c.loop-at.invariant most interval es stand ∙ ap (λ cs. c.loop-at.text.items ++ rows_from most interval es c.loop-at.at cs) (drop_all c.loop-at.at c.args.codes.now end)
    ∙ append-nil c.loop-at.text.items)
