use Rattle.rtk_quality.proofs.LineLemmas.{listed-is}
use Rattle.rtk_quality.proofs.heading.put_listed.Goals as goal

pub returns : goal.returns
returns c =
    listed-is c.args.form c.args.listed.now c.args.text.now.items c.put_count.new.text.items c.put_count-2.new.text.items c.put_count-3.new.text.items c.put_count-4.new.text.items
    c.in_ok-put_count.ensures c.in_ok-put_count-2.ensures c.in_ok-put_count-3.ensures c.in_ok-put_count-4.ensures
