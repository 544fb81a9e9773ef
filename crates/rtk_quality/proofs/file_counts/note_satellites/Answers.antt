use Rattle.std.proofs.Common.{◌≡◌, ◌<◌, ◌≤◌, ◌+◌, ◌∙◌, ◌∷◌, ℕ, List, length, refl, sym, ap, subst, length-set, arith}
use Rattle.std.proofs.lemmas.List.{with_items_is}
use Rattle.rtk_tracking.specs.Passes.{sightings_of}
use Rattle.rtk_quality.specs.Standing.{without_rows, StandForSatellites}
use Rattle.rtk_quality.specs.declared.satellite_counts.SatelliteCounts.{SatelliteCounts}
use Rattle.rtk_quality.proofs.FileLemmas.{AreUpTo, none-yet, all-now, one-more}
use Rattle.rtk_quality.proofs.file_counts.note_satellites.Goals as goal

pub loop-place-init : goal.loop-place-init
loop-place-init c =
    let is : c.as_mut_slice-all.result.now ≡ c.args.satellites.now.items = c.as_mut_slice-all.ensures.value in
    record {
      size = ap (λ (xs : List SatelliteCounts). length xs) is;
      satellites = λ most interval time es stand.
          subst (λ (xs : List SatelliteCounts). AreUpTo 0 most xs interval (without_rows time) es) (sym is) (none-yet most c.args.satellites.now.items interval (without_rows time) es stand);
    }

pub loop-place-preserved : goal.loop-place-preserved
loop-place-preserved c =
    let i : ℕ = c.loop-place.place in
    let new : SatelliteCounts = c.note_epoch.new.self in
    let same : i ≤ i = omega arith in
    let n : length c.as_mut_slice-all.result.now ≡ length c.args.satellites.now.items = ap (λ (xs : List SatelliteCounts). length xs) c.as_mut_slice-all.ensures.value in
    record {
      size = length-set c.loop-place.all i new ∙ c.loop-place.invariant.size;
      satellites = λ most interval time es stand.
          let size = stand.size in
          let within : i < most = omega (arith, c.loop-place-test.true, n, size) in
          one-more i i most c.loop-place.all new interval (without_rows time) es refl within (c.loop-place.invariant.satellites most interval time es stand)
          (c.note_epoch.ensures interval (sightings_of (i + 1) es) time
          ((c.loop-place.invariant.satellites most interval time es stand).old i _ same within));
    }

pub returns-clause-size : goal.returns-clause-size
returns-clause-size c =
    let size = c.loop-place.invariant.size in
    let len : length c.loop-place.all ≡ c.args.satellites.now.len = omega (arith, size) in
    ap (λ (xs : List SatelliteCounts). length xs) (with_items_is c.args.satellites.now c.loop-place.all len) ∙ size

pub returns-clause-satellites : goal.returns-clause-satellites
returns-clause-satellites c = λ most interval time es stand.
    let size = stand.size in
    let n : length c.as_mut_slice-all.result.now ≡ length c.args.satellites.now.items = ap (λ (xs : List SatelliteCounts). length xs) c.as_mut_slice-all.ensures.value in
    let end : c.loop-place.place ≡ most = omega (arith, c.loop-place.auto.place-end, c.loop-place-test.false, n, size) in
    let kept = c.loop-place.invariant.size in
    let len : length c.loop-place.all ≡ c.args.satellites.now.len = omega (arith, kept) in
    subst (λ (xs : List SatelliteCounts). StandForSatellites xs most interval (without_rows time ∷ es)) (sym (with_items_is c.args.satellites.now c.loop-place.all len))
    (all-now c.loop-place.place most c.loop-place.all interval (without_rows time) es end (c.loop-place.invariant.satellites most interval time es stand))
