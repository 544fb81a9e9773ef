use Rattle.rtk_quality.proofs.LineLemmas.{moment-is}
use Rattle.rtk_quality.proofs.station_lines.put_moment_line.Goals as goal

pub returns : goal.returns
returns c =
    moment-is c.args.form c.args.moment.now c.args.text.now.items c.put_start.new.text.items c.put_moment.new.text.items c.put_having.new.text.items
    c.put_end.new.text.items c.in_ok-put_start.ensures c.in_ok-put_moment.ensures c.in_ok-put_having.ensures c.in_ok-put_end.ensures
