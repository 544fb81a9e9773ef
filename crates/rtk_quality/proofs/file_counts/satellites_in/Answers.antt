use Rattle.std.proofs.Common.{◌≡◌, ◌<◌, ◌+◌, ℕ, Bool, List, cond, count_by, length, sym, ap, ◌∙◌, arith, Option}
use Rattle.std.specs.List.{range_with_len}
use Rattle.rtk_rinex.specs.Record.{EpochTableView}
use Rattle.rtk_tracking.specs.Passes.{Sighting, sightings_of}
use Rattle.rtk_quality.specs.Quality.{is_in_file, satellites_in}
use Rattle.rtk_quality.specs.Standing.{StandsForSatellite, StandForSatellites}
use Rattle.rtk_quality.specs.declared.satellite_counts.SatelliteCounts.{SatelliteCounts}
use Rattle.rtk_quality.proofs.FileLemmas.{count-next}
use Rattle.rtk_quality.proofs.file_counts.satellites_in.Goals as goal
use Rattle.rtk_quality.proofs.file_counts.satellites_in.Goals.{then-is_in_file, else-is_in_file}

-- one satellite more is counted if it is in the file
counted : (satellites : List SatelliteCounts) (i seen now : ℕ) (one : SatelliteCounts) (is : Bool) (most : ℕ) (interval : Option ℕ) (es : List EpochTableView)
    → i < length satellites → StandForSatellites satellites most interval es → StandsForSatellite one interval (sightings_of (i + 1) es)
    → ((interval : Option ℕ) (before : List Sighting) → StandsForSatellite one interval before → is ≡ is_in_file interval before)
    → seen ≡ count_by (λ satellite. is_in_file interval (sightings_of satellite es)) (range_with_len 1 i) → now ≡ seen + cond is 1 0
    → now ≡ count_by (λ satellite. is_in_file interval (sightings_of satellite es)) (range_with_len 1 (i + 1))
counted satellites i seen now one is most interval es within stand stands says was took =
    let more = count-next (λ satellite. is_in_file interval (sightings_of satellite es)) 1 i in
    let next : i + 1 ≡ 1 + i = omega arith in
    let here : is ≡ is_in_file interval (sightings_of (1 + i) es) =
    says interval (sightings_of (i + 1) es) stands ∙ ap (λ (k : ℕ). is_in_file interval (sightings_of k es)) next in
    took ∙ ap (λ (n : ℕ). n + cond is 1 0) was
    ∙ ap (λ (b : Bool). count_by (λ satellite. is_in_file interval (sightings_of satellite es)) (range_with_len 1 i) + cond b 1 0) here ∙ sym more

pub loop-satellite-preserved : goal.loop-satellite-preserved
loop-satellite-preserved c = elim c.if-is_in_file.branch [
  | then-is_in_file w ↦ record {
    few = let was = c.loop-satellite.invariant.few in let now = w.seen-is in omega (arith, was, now);
    many = λ most interval es stand.
        let within : c.loop-satellite.satellite-index < most = omega (arith, c.loop-satellite-test.true, stand.size) in
        counted c.args.satellites.now c.loop-satellite.satellite-index c.loop-satellite.seen _ _ c.is_in_file.result most interval es c.loop-satellite-test.true stand
        (stand.each c.loop-satellite.satellite-index _ within)
        c.is_in_file.ensures (c.loop-satellite.invariant.many most interval es stand) (w.seen-is ∙ sym (ap (λ (b : Bool). c.loop-satellite.seen + cond b 1 0) w.if-is_in_file.true));
  }
  | else-is_in_file w ↦ record {
    few = let was = c.loop-satellite.invariant.few in let now = w.seen-is in omega (arith, was, now);
    many = λ most interval es stand.
        let within : c.loop-satellite.satellite-index < most = omega (arith, c.loop-satellite-test.true, stand.size) in
        let none : c.loop-satellite.seen ≡ c.loop-satellite.seen + 0 = omega arith in
        counted c.args.satellites.now c.loop-satellite.satellite-index c.loop-satellite.seen _ _ c.is_in_file.result most interval es c.loop-satellite-test.true stand
        (stand.each c.loop-satellite.satellite-index _ within)
        c.is_in_file.ensures (c.loop-satellite.invariant.many most interval es stand) (w.seen-is ∙ none ∙ sym (ap (λ (b : Bool). c.loop-satellite.seen + cond b 1 0) w.if-is_in_file.false));
  }
]

pub returns : goal.returns
unfolding satellites_in
returns c = λ most interval es stand.
    let end : c.loop-satellite.satellite-index ≡ most = omega (arith, c.loop-satellite-test.false, c.loop-satellite.auto.satellite-index-end, stand.size) in
    c.loop-satellite.invariant.many most interval es stand ∙ ap (λ (k : ℕ). count_by (λ satellite. is_in_file interval (sightings_of satellite es)) (range_with_len 1 k)) end
