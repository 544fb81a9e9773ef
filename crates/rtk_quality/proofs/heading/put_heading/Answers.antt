use Rattle.rtk_quality.proofs.LineLemmas.{heading-is}
use Rattle.rtk_quality.proofs.heading.put_heading.Goals as goal

pub returns : goal.returns
returns c =
    heading-is c.args.form c.args.marker.now c.args.from c.args.until c.args.interval c.args.satellites c.args.records.now c.args.listed.now c.args.sums.now c.args.text.now.items
    c.put_marker.new.text.items c.put_span.new.text.items c.put_count.new.text.items c.put_satellites.new.text.items c.put_station.new.text.items c.put_listed.new.text.items
    c.put_end.new.text.items c.in_ok-put_marker.ensures c.in_ok-put_span.ensures c.in_ok-put_count.ensures c.in_ok-put_satellites.ensures c.in_ok-put_station.ensures
    c.in_ok-put_listed.ensures c.in_ok-put_end.ensures
