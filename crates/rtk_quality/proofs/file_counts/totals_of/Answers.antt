use Rattle.std.proofs.Common.{◌≡◌, ◌<◌, ◌+◌, ℕ, ap, ◌∙◌, arith}
use Rattle.std.specs.List.{fold, range_with_len}
use Rattle.rtk_tracking.specs.Passes.{sightings_of}
use Rattle.rtk_quality.specs.Quality.{numbers_of, with_satellite, no_numbers, totals_of}
use Rattle.rtk_quality.proofs.FileLemmas.{totals-more}
use Rattle.rtk_quality.proofs.file_counts.totals_of.Goals as goal

pub loop-satellite-preserved : goal.loop-satellite-preserved
loop-satellite-preserved c = λ most interval es stand.
    let within : c.loop-satellite.satellite-index < most = omega (arith, c.loop-satellite-test.true, stand.size) in
    totals-more interval es c.args.place c.loop-satellite.satellite-index c.loop-satellite.totals c.numbers.result c.add_satellite.new.self
    (c.loop-satellite.invariant most interval es stand) (c.numbers.ensures interval (sightings_of (c.loop-satellite.satellite-index + 1) es) (stand.each c.loop-satellite.satellite-index _ within)) c.add_satellite.ensures

pub returns : goal.returns
unfolding totals_of
returns c = λ most interval es stand.
    let end : c.loop-satellite.satellite-index ≡ most = omega (arith, c.loop-satellite-test.false, c.loop-satellite.auto.satellite-index-end, stand.size) in
    c.loop-satellite.invariant most interval es stand
    ∙ ap (λ (k : ℕ). fold (λ total satellite. with_satellite total (numbers_of interval (sightings_of satellite es) c.args.place)) no_numbers (range_with_len 1 k)) end
