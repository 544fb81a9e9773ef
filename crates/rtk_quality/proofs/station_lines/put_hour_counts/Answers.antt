use Rattle.rtk_quality.proofs.LineLemmas.{hour-counts-are}
use Rattle.rtk_quality.proofs.station_lines.put_hour_counts.Goals as goal

pub returns : goal.returns
returns c =
    hour-counts-are c.args.form c.args.hour.now c.saturating_add-expected.result c.mean_tenths-mean.result c.args.text.now.items c.put_count.new.text.items c.put_count-2.new.text.items
    c.put_value.new.text.items c.put_count-3.new.text.items c.put_count-4.new.text.items c.saturating_add-expected.ensures c.mean_tenths-mean.ensures c.in_ok-put_count.ensures
    c.in_ok-put_count-2.ensures c.in_ok-put_value.ensures c.in_ok-put_count-3.ensures c.in_ok-put_count-4.ensures
