use Rattle.rtk_quality.proofs.LineLemmas.{span-is}
use Rattle.rtk_quality.proofs.heading.put_span.Goals as goal

pub returns : goal.returns
returns c =
    span-is c.args.form c.args.from c.args.until c.args.interval c.args.records.now c.args.text.now.items c.put_moment.new.text.items c.put_moment-2.new.text.items c.put_value.new.text.items
    c.put_count.new.text.items c.put_count-2.new.text.items c.in_ok-put_moment.ensures c.in_ok-put_moment-2.ensures c.in_ok-put_value.ensures c.in_ok-put_count.ensures c.in_ok-put_count-2.ensures
