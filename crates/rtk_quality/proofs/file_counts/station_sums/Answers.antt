use Rattle.std.proofs.Common.{◌≡◌, ◌<◌, ◌+◌, ℕ, ap, ◌∙◌, arith}
use Rattle.std.specs.List.{fold, range_with_len}
use Rattle.rtk_tracking.specs.Passes.{sightings_of}
use Rattle.rtk_quality.specs.SatellitePasses.{no_sums, sums_plus, sums_in}
use Rattle.rtk_quality.specs.Quality.{station_sums}
use Rattle.rtk_quality.proofs.FileLemmas.{sums-more}
use Rattle.rtk_quality.proofs.file_counts.station_sums.Goals as goal

pub loop-satellite-preserved : goal.loop-satellite-preserved
loop-satellite-preserved c = λ most interval es stand.
    let within : c.loop-satellite.satellite-index < most = omega (arith, c.loop-satellite-test.true, stand.size) in
    sums-more interval es c.loop-satellite.satellite-index c.loop-satellite.sums c.sums.result c.plus-sums.result
    (c.loop-satellite.invariant most interval es stand) (c.sums.ensures interval (sightings_of (c.loop-satellite.satellite-index + 1) es) (stand.each c.loop-satellite.satellite-index _ within)) c.plus-sums.ensures

pub returns : goal.returns
unfolding station_sums
returns c = λ most interval es stand.
    let end : c.loop-satellite.satellite-index ≡ most = omega (arith, c.loop-satellite-test.false, c.loop-satellite.auto.satellite-index-end, stand.size) in
    c.loop-satellite.invariant most interval es stand
    ∙ ap (λ (k : ℕ). fold (λ sums satellite. sums_plus sums (sums_in interval (sightings_of satellite es))) no_sums (range_with_len 1 k)) end
