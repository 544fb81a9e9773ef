use Rattle.rtk_quality.proofs.LineLemmas.{sums-are}
use Rattle.rtk_quality.proofs.lines.put_sums.Goals as goal

pub returns : goal.returns
returns c =
    sums-are c.args.form c.args.sums.now c.args.text.now.items c.put_count.new.text.items c.put_count-2.new.text.items c.put_count-3.new.text.items c.put_count-4.new.text.items
    c.put_value.new.text.items c.in_ok-put_count.ensures c.in_ok-put_count-2.ensures c.in_ok-put_count-3.ensures c.in_ok-put_count-4.ensures c.in_ok-put_value.ensures
