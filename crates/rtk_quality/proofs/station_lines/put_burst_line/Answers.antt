use Rattle.rtk_quality.proofs.LineLemmas.{burst-is}
use Rattle.rtk_quality.proofs.station_lines.put_burst_line.Goals as goal

pub returns : goal.returns
returns c =
    burst-is c.args.form c.args.burst.now c.start_of.result c.args.text.now.items c.put_start.new.text.items c.put_satellite_name.new.text.items c.put_moment.new.text.items
    c.put_count.new.text.items c.put_end.new.text.items c.start_of.ensures c.in_ok-put_start.ensures c.in_ok-put_satellite_name.ensures c.in_ok-put_moment.ensures
    c.in_ok-put_count.ensures c.in_ok-put_end.ensures
