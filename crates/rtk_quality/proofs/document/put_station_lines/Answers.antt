use Rattle.rtk_quality.proofs.TextLemmas.{station-part-is}
use Rattle.rtk_quality.proofs.document.put_station_lines.Goals as goal

pub returns : goal.returns
returns c = λ most interval unit es stands.
    station-part-is c.args.whole c.args.form c.args.codes.now most interval unit es _ c.args.counts.now
    c.args.text.now.items c.put_hours.new.text.items c.put_gaps_of_file.new.text.items c.put_falls.new.text.items c.put_outages.new.text.items c.put_moments.new.text.items
    c.put_bursts.new.text.items c.put_runs.new.text.items c.put_missing.new.text.items (c.in_ok-hours.ensures _ stands.hours) stands
    (rw c.as_slice.ensures.value at c.in_ok-put_hours.ensures) c.in_ok-put_gaps_of_file.ensures (rw c.as_slice-2.ensures.value at c.in_ok-put_falls.ensures)
    c.in_ok-put_outages.ensures c.in_ok-put_moments.ensures c.in_ok-put_bursts.ensures c.in_ok-put_runs.ensures c.in_ok-put_missing.ensures
