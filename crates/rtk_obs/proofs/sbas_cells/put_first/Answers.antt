use Rattle.rtk_obs.proofs.SbasLemmas.{put-again, put-new, seen-map}
use Rattle.rtk_obs.proofs.sbas_cells.put_first.Goals as goal

pub returns-then-mark_number-clause-entries : goal.returns-then-mark_number-clause-entries
returns-then-mark_number-clause-entries c = λ before seen so_far.
    put-new before c.args.satellite.now c.mark_number.result c.args.found.now.items c.put_signals_of.new.found.items (c.mark_number.ensures.value _ seen) c.if-mark_number.true c.put_signals_of.ensures.entries so_far

pub returns-then-mark_number-clause-seen : goal.returns-then-mark_number-clause-seen
returns-then-mark_number-clause-seen c = λ before seen. seen-map c.mark_number.new.seen before c.args.satellite.now (c.mark_number.ensures.seen _ seen)

pub returns-else-mark_number-clause-entries : goal.returns-else-mark_number-clause-entries
returns-else-mark_number-clause-entries c = λ before seen so_far.
    put-again before c.args.satellite.now c.mark_number.result c.args.found.now.items (c.mark_number.ensures.value _ seen) c.if-mark_number.false so_far

pub returns-else-mark_number-clause-seen : goal.returns-else-mark_number-clause-seen
returns-else-mark_number-clause-seen c = λ before seen. seen-map c.mark_number.new.seen before c.args.satellite.now (c.mark_number.ensures.seen _ seen)
