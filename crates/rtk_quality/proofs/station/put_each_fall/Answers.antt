use Rattle.rtk_quality.proofs.LineLemmas.{falls-are}
use Rattle.rtk_quality.proofs.station.put_each_fall.Goals as goal

pub returns : goal.returns
returns c =
    falls-are c.args.form c.args.hours.now c.args.text.now.items c.put_fall.new.text.items c.put_fall-2.new.text.items c.put_fall-3.new.text.items
    c.put_fall-4.new.text.items c.put_fall-5.new.text.items c.put_fall-6.new.text.items c.in_ok-put_fall.ensures c.in_ok-put_fall-2.ensures
    c.in_ok-put_fall-3.ensures c.in_ok-put_fall-4.ensures c.in_ok-put_fall-5.ensures c.in_ok-put_fall-6.ensures
