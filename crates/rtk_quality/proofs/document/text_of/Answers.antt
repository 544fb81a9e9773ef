use Rattle.std.proofs.Common.{◌++◌, ℕ, List, Option, sym, ap, subst, ◌∙◌}
use Rattle.rtk_obs.proofs.PublicLaws.{reading_is}
use Rattle.rtk_quality.specs.Records.{unit_of}
use Rattle.rtk_quality.specs.QualityText.{heading_text}
use Rattle.rtk_quality.specs.Standing.{StandForSatellites}
use Rattle.rtk_quality.specs.declared.satellite_counts.SatelliteCounts.{SatelliteCounts}
use Rattle.rtk_quality.specs.declared.file_counts.FileCounts.{FileCounts}
use Rattle.rtk_quality.specs.declared.heading.ListedCounts.{ListedCounts}
use Rattle.rtk_quality.proofs.TextLemmas.{listed-are, text-is}
use Rattle.rtk_quality.proofs.document.text_of.Goals as goal

pub returns : goal.returns
returns c = λ most es stands.
    let interval : Option ℕ = c.args.interval in
    let satellites : StandForSatellites c.as_slice-satellites.result.now most interval es =
    subst (λ (xs : List SatelliteCounts). StandForSatellites xs most interval es) (sym c.as_slice-satellites.ensures.value) stands.satellites in
    let counts : FileCounts = c.args.counts.now in
    let listed : ListedCounts = c.of-listed.result in
    text-is c.args.form c.args.marker.now c.args.codes.now c.args.first c.args.last most c.args.interval es c.civil-from.result c.civil-until.result c.satellites_in-seen.result c.args.counts.now.records listed c.station_sums-sums.result
    _ _ _ (reading_is _ _ c.civil-from.ensures.reading) (reading_is _ _ c.civil-until.ensures.reading) (c.satellites_in-seen.ensures most interval es satellites) stands.records (c.of-listed.ensures ∙ listed-are most interval (unit_of interval) c.args.codes.now es counts stands) (c.station_sums-sums.ensures most interval es satellites)
    (c.in_ok-put_heading.ensures
    ∙ ap (λ (t : List ℕ). t ++ heading_text c.args.form c.args.marker.now c.civil-from.result c.civil-until.result c.args.interval c.satellites_in-seen.result c.args.counts.now.records listed c.station_sums-sums.result) c.new-text.ensures.items)
    (c.in_ok-put_body.ensures most interval (unit_of interval) es stands) c.in_ok-put_close.ensures
