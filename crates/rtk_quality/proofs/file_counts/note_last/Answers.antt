use Rattle.std.proofs.Common.{◌≡◌, ◌<◌, ◌+◌, ◌++◌, ◌∙◌, ℕ, List, Option, refl, sym, ap, subst, arith}
use Rattle.std.specs.Prelude.{flat_map}
use Rattle.std.specs.List.{range_with_len}
use Rattle.std.proofs.lemmas.List.{append-nil}
use Rattle.rtk_tracking.specs.Passes.{sightings_of}
use Rattle.rtk_quality.specs.Bursts.{last_hour, burst_of, last_bursts, size_of_burst}
use Rattle.rtk_quality.specs.Largest.{list_of, AreLargest}
use Rattle.rtk_quality.specs.Runs.{open_run, half_run, open_runs, size_of_run}
use Rattle.rtk_quality.specs.declared.runs.Run.{Run}
use Rattle.rtk_quality.specs.declared.runs.HalfRun.{HalfRun}
use Rattle.rtk_quality.specs.declared.bursts.HourMoments.{HourMoments}
use Rattle.rtk_quality.specs.declared.bursts.Burst.{Burst}
use Rattle.rtk_quality.proofs.RowLemmas.{last-told}
use Rattle.rtk_quality.proofs.file_counts.note_last.Goals as goal

pub loop-place-init : goal.loop-place-init
loop-place-init c = record {
  outages = refl;
  runs = λ most interval es all stand are. subst (λ (xs : List HalfRun). AreLargest size_of_run c.args.events.now.runs xs) (sym (append-nil all)) are;
  bursts = λ most interval es all stand are. subst (λ (xs : List Burst). AreLargest size_of_burst c.args.events.now.bursts xs) (sym (append-nil all)) are;
}

pub loop-place-preserved : goal.loop-place-preserved
loop-place-preserved c =
    let i : ℕ = c.loop-place.place in
    let k : ℕ = c.satellite_at-satellite.result in
    let next : k ≡ 1 + i = omega (arith, c.satellite_at-satellite.ensures) in
    record {
      outages = c.loop-place.invariant.outages;
      runs = λ most interval es all stand are.
          let size = stand.size in
          let within : i < most = omega (arith, c.loop-place-test.true, size) in
          last-told size_of_run (λ satellite. half_run satellite (open_run interval (sightings_of satellite es))) i k c.half_run.result c.loop-place.events.runs _ all next
          (c.half_run.ensures ∙ ap (λ (x : Option Run). half_run k x) (stand.each i _ within).run
          ∙ ap (λ (n : ℕ). half_run k (open_run interval (sightings_of n es))) (sym c.satellite_at-satellite.ensures))
          (c.loop-place.invariant.runs most interval es all stand are) c.in_ok-note_if_any.ensures;
      bursts = λ most interval es all stand are.
          let size = stand.size in
          let within : i < most = omega (arith, c.loop-place-test.true, size) in
          last-told size_of_burst (λ satellite. burst_of satellite (last_hour interval (sightings_of satellite es))) i k c.burst_of.result c.loop-place.events.bursts _ all next
          (c.burst_of.ensures ∙ ap (λ (x : Option HourMoments). burst_of k x) (stand.each i _ within).hour
          ∙ ap (λ (n : ℕ). burst_of k (last_hour interval (sightings_of n es))) (sym c.satellite_at-satellite.ensures))
          (c.loop-place.invariant.bursts most interval es all stand are) c.in_ok-note_if_any-2.ensures;
    }

pub returns-clause-runs : goal.returns-clause-runs
unfolding open_runs
returns-clause-runs c = λ most interval es all stand are.
    let end : c.loop-place.place ≡ most = let size = stand.size in omega (arith, c.loop-place.auto.place-end, c.loop-place-test.false, size) in
    subst (λ (n : ℕ). AreLargest size_of_run c.loop-place.events.runs (all ++ flat_map (λ satellite. list_of (half_run satellite (open_run interval (sightings_of satellite es)))) (range_with_len 1 n)))
    end (c.loop-place.invariant.runs most interval es all stand are)

pub returns-clause-bursts : goal.returns-clause-bursts
unfolding last_bursts
returns-clause-bursts c = λ most interval es all stand are.
    let end : c.loop-place.place ≡ most = let size = stand.size in omega (arith, c.loop-place.auto.place-end, c.loop-place-test.false, size) in
    subst (λ (n : ℕ). AreLargest size_of_burst c.loop-place.events.bursts (all ++ flat_map (λ satellite. list_of (burst_of satellite (last_hour interval (sightings_of satellite es)))) (range_with_len 1 n)))
    end (c.loop-place.invariant.bursts most interval es all stand are)
