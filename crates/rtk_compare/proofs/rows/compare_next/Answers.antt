use Rattle.rtk_compare.proofs.ReaderLemmas.{side-at}
use Rattle.rtk_compare.proofs.rows.compare_next.Goals as goal

pub compare_side-requires-clause-side : goal.compare_side-requires-clause-side
compare_side-requires-clause-side c = side-at c.number.result c.number-2.result c.args.old.now.satellite c.args.new.now.satellite _ c.number.ensures c.number-2.ensures c.in-Some.ensures

pub returns-in-Some-clause-side : goal.returns-in-Some-clause-side
returns-in-Some-clause-side c = side-at c.number.result c.number-2.result c.args.old.now.satellite c.args.new.now.satellite _ c.number.ensures c.number-2.ensures c.in-Some.ensures

pub returns-in-Some-clause-lines : goal.returns-in-Some-clause-lines
returns-in-Some-clause-lines c = λ codes earlier shared. c.compare_side.ensures.lines codes earlier shared

pub returns-in-Some-clause-tracks : goal.returns-in-Some-clause-tracks
returns-in-Some-clause-tracks c = λ codes shared. c.compare_side.ensures.tracks codes shared

pub returns-in-None-clause-side : goal.returns-in-None-clause-side
returns-in-None-clause-side c = side-at c.number.result c.number-2.result c.args.old.now.satellite c.args.new.now.satellite _ c.number.ensures c.number-2.ensures c.in-None.ensures
