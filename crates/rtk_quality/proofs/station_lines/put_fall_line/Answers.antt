use Rattle.rtk_quality.proofs.LineLemmas.{fall-is}
use Rattle.rtk_quality.proofs.station_lines.put_fall_line.Goals as goal

pub returns : goal.returns
returns c =
    fall-is c.args.form c.args.band c.args.fall.now c.number_of.result c.start_of.result c.start_of-2.result c.args.text.now.items c.put_start.new.text.items c.put_count.new.text.items
    c.put_moment.new.text.items c.put_moment-2.new.text.items c.put_value.new.text.items c.put_end.new.text.items c.number_of.ensures c.start_of.ensures c.start_of-2.ensures
    c.in_ok-put_start.ensures c.in_ok-put_count.ensures c.in_ok-put_moment.ensures c.in_ok-put_moment-2.ensures c.in_ok-put_value.ensures c.in_ok-put_end.ensures
