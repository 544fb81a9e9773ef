use Rattle.std.proofs.Common.{◌≡◌, ◌<◌, ◌+◌, ◌++◌, ℕ, List, length, sym, subst, arith}
use Rattle.std.specs.Prelude.{flat_map}
use Rattle.std.specs.List.{range_with_len}
use Rattle.std.proofs.lemmas.List.{append-nil}
use Rattle.rtk_tracking.specs.Passes.{sightings_of}
use Rattle.rtk_quality.specs.Largest.{AreLargest}
use Rattle.rtk_quality.specs.Missing.{missing_from, all_missing, size_of_missing}
use Rattle.rtk_quality.specs.Standing.{StandForCodes}
use Rattle.rtk_quality.specs.declared.missing.MissingCode.{MissingCode}
use Rattle.rtk_quality.specs.declared.missing.MissingRuns.{MissingRuns}
use Rattle.rtk_quality.proofs.MissingCodeLemmas.{satellites-more}
use Rattle.rtk_quality.proofs.missing.note_missing.Goals as goal

pub loop-place-init : goal.loop-place-init
loop-place-init c = λ most es all stand runs are. subst (λ (ms : List MissingCode). AreLargest size_of_missing c.args.missing.now ms) (sym (append-nil all)) are

pub loop-place-preserved : goal.loop-place-preserved
loop-place-preserved c = λ most es all stand runs are.
    let i : ℕ = c.loop-place.place in
    let size = stand.size in
    let within : i < most = omega (arith, c.loop-place-test.true, size) in
    let own : c.satellite_at-satellite.result ≡ i + 1 = c.satellite_at-satellite.ensures in
    satellites-more size_of_missing (λ satellite. missing_from c.args.interval (sightings_of satellite es) satellite 0 c.args.codes.now) i c.loop-place.missing _ all
    (c.loop-place.invariant most es all stand runs are)
    (λ ms so_far. subst (λ (k : ℕ). AreLargest size_of_missing c.note_satellite.new.missing (ms ++ missing_from c.args.interval (sightings_of (i + 1) es) k 0 c.args.codes.now)) own
    (c.in_ok-note_satellite.ensures (sightings_of (i + 1) es) ms (stand.each i _ within)
    (subst (λ (xs : List MissingRuns). StandForCodes xs (length c.args.codes.now) c.args.interval (sightings_of (i + 1) es)) (sym c.as_slice-runs.ensures.value) (runs.each i _ within)) so_far))

pub returns : goal.returns
unfolding all_missing
returns c = λ most es all stand runs are.
    let end : c.loop-place.place ≡ most = let size = stand.size in omega (arith, c.loop-place.auto.place-end, c.loop-place-test.false, size) in
    subst (λ (n : ℕ). AreLargest size_of_missing c.loop-place.missing (all ++ flat_map (λ satellite. missing_from c.args.interval (sightings_of satellite es) satellite 0 c.args.codes.now) (range_with_len 1 n)))
    end (c.loop-place.invariant most es all stand runs are)
