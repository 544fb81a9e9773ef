use Rattle.rtk_quality.proofs.LineLemmas.{hour-is}
use Rattle.rtk_quality.proofs.station_lines.put_hour_line.Goals as goal

pub returns : goal.returns
returns c =
    hour-is c.args.form c.args.codes.now c.args.hour.now c.start_of.result c.args.text.now.items c.put_start.new.text.items c.put_moment.new.text.items c.put_hour_counts.new.text.items
    c.put_strengths.new.text.items c.put_end.new.text.items c.start_of.ensures c.in_ok-put_start.ensures
    c.in_ok-put_moment.ensures c.in_ok-put_hour_counts.ensures c.in_ok-put_strengths.ensures c.in_ok-put_end.ensures
