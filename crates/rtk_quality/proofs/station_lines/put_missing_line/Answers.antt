use Rattle.rtk_quality.proofs.LineLemmas.{missing-is}
use Rattle.rtk_quality.proofs.station_lines.put_missing_line.Goals as goal

pub returns : goal.returns
returns c =
    missing-is c.args.form c.args.missing.now c.args.text.now.items c.put_start.new.text.items c.put_satellite_name.new.text.items c.put_code_name.new.text.items c.put_moment.new.text.items
    c.put_moment-2.new.text.items c.put_count.new.text.items c.put_end.new.text.items c.in_ok-put_start.ensures c.in_ok-put_satellite_name.ensures c.in_ok-put_code_name.ensures
    c.in_ok-put_moment.ensures c.in_ok-put_moment-2.ensures c.in_ok-put_count.ensures c.in_ok-put_end.ensures
