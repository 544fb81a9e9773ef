use Rattle.std.proofs.Common.{List, sym, subst, ◌∙◌}
use Rattle.rtk_quality.specs.Records.{unit_of}
use Rattle.rtk_quality.specs.Standing.{StandForSatellites}
use Rattle.rtk_quality.specs.declared.satellite_counts.SatelliteCounts.{SatelliteCounts}
use Rattle.rtk_quality.proofs.MixedTextLemmas.{system-is}
use Rattle.rtk_quality.proofs.TextLemmas.{listed-are}
use Rattle.rtk_quality.proofs.mixed_document.put_counted.Goals as goal

pub returns : goal.returns
returns c = λ interval es stands.
    let satellites : StandForSatellites c.as_slice-satellites.result.now 221 interval es =
    subst (λ (xs : List SatelliteCounts). StandForSatellites xs 221 interval es) (sym c.as_slice-satellites.ensures.value) stands.satellites in
    system-is c.args.has_shifts c.args.form c.args.system c.args.codes.now interval es c.satellites_in-seen.result c.args.counts.now.records c.of-listed.result c.station_sums-sums.result
    c.args.text.now.items c.put_totals.new.text.items c.put_body.new.text.items c.put_shifts_if.new.text.items c.put_either.new.text.items
    (c.satellites_in-seen.ensures 221 interval es satellites) stands.records (c.of-listed.ensures ∙ listed-are 221 interval (unit_of interval) c.args.codes.now es c.args.counts.now stands)
    (c.station_sums-sums.ensures 221 interval es satellites) c.in_ok-put_totals.ensures (c.in_ok-put_body.ensures 221 interval (unit_of interval) es stands)
    (c.in_ok-put_shifts_if.ensures 221 interval es satellites) c.in_ok-put_either.ensures
