use Rattle.rtk_compare.proofs.rows.compare_rows.Goals as goal

pub returns-then-have_same_rows-clause-compared : goal.returns-then-have_same_rows-clause-compared
returns-then-have_same_rows-clause-compared c = λ codes earlier olds news shared tracks old new old_rise new_rise.
    c.compare_same_rows.ensures.compared codes earlier olds news shared tracks old (c.have_same_rows.ensures c.if-have_same_rows.true news new) old_rise new_rise
