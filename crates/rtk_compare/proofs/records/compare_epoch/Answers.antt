use Rattle.rtk_compare.proofs.RecordLemmas.{side-rows, side-rise, epoch-compared}
use Rattle.rtk_compare.proofs.records.compare_epoch.Goals as goal

pub returns-clause-compared : goal.returns-clause-compared
returns-clause-compared c = λ codes earlier p shared tracks is_old is_new.
    epoch-compared _ _ codes earlier p c.moment_of_both-time.result c.args.findings.now c.put_gone_epoch.new.findings c.compare_rows.new.findings c.compare_rows.new.tracks is_old is_new c.put_gone_epoch.ensures c.moment_of_both-time.ensures
    (c.compare_rows.ensures.compared codes earlier p.old.rows p.new.rows shared tracks (side-rows _ p.old is_old) (side-rows _ p.new is_new) (side-rise _ p.old is_old) (side-rise _ p.new is_new))
