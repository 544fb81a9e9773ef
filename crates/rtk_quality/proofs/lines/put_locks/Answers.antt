use Rattle.rtk_quality.proofs.LineLemmas.{locks-are}
use Rattle.rtk_quality.proofs.lines.put_locks.Goals as goal

pub returns : goal.returns
returns c =
    locks-are c.args.form c.args.counts.now c.phases_per_slip-each.result c.args.text.now.items c.put_count.new.text.items c.put_count-2.new.text.items c.put_count-3.new.text.items
    c.put_count-4.new.text.items c.put_count-5.new.text.items c.put_per_slip.new.text.items c.phases_per_slip-each.ensures c.in_ok-put_count.ensures c.in_ok-put_count-2.ensures
    c.in_ok-put_count-3.ensures c.in_ok-put_count-4.ensures c.in_ok-put_count-5.ensures c.in_ok-put_per_slip.ensures
