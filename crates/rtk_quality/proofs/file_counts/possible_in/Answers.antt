use Rattle.std.proofs.Common.{◌≡◌, ◌<◌, ◌+◌, ℕ, ap, ◌∙◌, arith}
use Rattle.std.specs.List.{fold, range_with_len}
use Rattle.rtk_tracking.specs.Passes.{sightings_of}
use Rattle.rtk_quality.specs.Counts.{plus}
use Rattle.rtk_quality.specs.SatellitePasses.{epochs_in_passes}
use Rattle.rtk_quality.specs.Quality.{possible_in}
use Rattle.rtk_quality.proofs.FileLemmas.{possible-more}
use Rattle.rtk_quality.proofs.file_counts.possible_in.Goals as goal

pub loop-satellite-preserved : goal.loop-satellite-preserved
loop-satellite-preserved c = λ most interval es stand.
    let within : c.loop-satellite.satellite-index < most = omega (arith, c.loop-satellite-test.true, stand.size) in
    possible-more interval es c.loop-satellite.satellite-index c.loop-satellite.possible c.possible.result c.saturating_add-possible.result
    (c.loop-satellite.invariant most interval es stand) (c.possible.ensures interval (sightings_of (c.loop-satellite.satellite-index + 1) es) (stand.each c.loop-satellite.satellite-index _ within)) c.saturating_add-possible.ensures

pub returns : goal.returns
unfolding possible_in
returns c = λ most interval es stand.
    let end : c.loop-satellite.satellite-index ≡ most = omega (arith, c.loop-satellite-test.false, c.loop-satellite.auto.satellite-index-end, stand.size) in
    c.loop-satellite.invariant most interval es stand
    ∙ ap (λ (k : ℕ). fold (λ n satellite. plus n (epochs_in_passes interval (sightings_of satellite es))) 0 (range_with_len 1 k)) end
