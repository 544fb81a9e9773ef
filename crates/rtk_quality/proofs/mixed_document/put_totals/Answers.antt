use Rattle.rtk_quality.proofs.MixedTextLemmas.{totals-are}
use Rattle.rtk_quality.proofs.mixed_document.put_totals.Goals as goal

pub returns : goal.returns
returns c =
    totals-are c.args.form c.args.system c.args.satellites c.args.records.now c.args.listed.now c.args.sums.now c.args.text.now.items c.put_system_start.new.text.items c.put_satellites.new.text.items
    c.put_station.new.text.items c.put_listed.new.text.items c.put_end.new.text.items c.in_ok-put_system_start.ensures c.in_ok-put_satellites.ensures c.in_ok-put_station.ensures
    c.in_ok-put_listed.ensures c.in_ok-put_end.ensures
