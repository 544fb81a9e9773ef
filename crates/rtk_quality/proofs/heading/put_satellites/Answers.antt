use Rattle.rtk_quality.proofs.LineLemmas.{satellites-are}
use Rattle.rtk_quality.proofs.heading.put_satellites.Goals as goal

pub returns : goal.returns
returns c =
    satellites-are c.args.form c.args.satellites c.args.records.now c.mean_tenths-mean.result c.args.text.now.items c.put_count.new.text.items c.put_narrow.new.text.items c.put_value.new.text.items
    c.put_narrow-2.new.text.items c.mean_tenths-mean.ensures c.in_ok-put_count.ensures c.in_ok-put_narrow.ensures c.in_ok-put_value.ensures c.in_ok-put_narrow-2.ensures
