use Rattle.std.proofs.Common.{◌≡◌, ◌<◌, ◌+◌, ℕ, List, length, ap, ◌∙◌, arith}
use Rattle.std.proofs.lemmas.List.{length-set}
use Rattle.std.proofs.lemmas.List.FromFn.{fill_by_all}
use Rattle.rtk_tracking.specs.Passes.{sightings_of}
use Rattle.rtk_tracking.specs.Epochs.{observed_in}
use Rattle.rtk_rinex.specs.declared.epoch_table.SatelliteRow.{SatelliteRow}
use Rattle.rtk_chart.specs.Epochs.{sighting_of}
use Rattle.rtk_chart.specs.Grid.{no_tracking}
use Rattle.rtk_chart.specs.Steps.Shown.{tracking_of, bin_of}
use Rattle.rtk_chart.specs.declared.tracking.Tracking.{Tracking}
use Rattle.rtk_chart.proofs.ListLemmas.{fill-more}
use Rattle.rtk_chart.proofs.GridLemmas.{bin_with, tracking-called, record-is, pass-of}
use Rattle.rtk_chart.proofs.time_bin.TimeBin.call_for.Goals as goal

pub loop-place-preserved : goal.loop-place-preserved
loop-place-preserved c =
    let i : ℕ = c.loop-place.place in
    let within : i < 32 = c.loop-place-test.true in
    let inside : i < length c.loop-place.self.satellites = omega (arith, within, c.loop-place.invariant.size) in
    record {
      size = length-set c.loop-place.self.satellites c.from-in-loop-place.result c.of_epoch.result ∙ c.loop-place.invariant.size;
      filled = λ before stands last.
          fill-more (λ place. tracking_of c.args.interval (sightings_of (place + 1) before) (sighting_of (place + 1) c.args.epoch.now))
          c.loop-place.self.satellites i c.from-in-loop-place.result c.of_epoch.result no_tracking c.from-in-loop-place.ensures inside
          (tracking-called c.args.interval c.args.epoch.now before i c.ms-time_ms.result c.observed_in-observed.result.now c.of_epoch.result
          (c.ms-time_ms.ensures.value ∙ c.time.ensures) (c.observed_in-observed.ensures ∙ ap (λ (rows : List SatelliteRow). observed_in (i + 1) rows) c.rows-rows.ensures.value)
          (c.of_epoch.ensures (sightings_of (i + 1) before) (pass-of c.args.interval before c.args.passes.now i c.from.result _ c.from.ensures within stands) (last ∙ record-is (i + 1) before)))
          (c.loop-place.invariant.filled before stands last);
    }

pub returns : goal.returns
unfolding bin_of
returns c = λ before stands last.
    let f : ℕ → Tracking = λ place. tracking_of c.args.interval (sightings_of (place + 1) before) (sighting_of (place + 1) c.args.epoch.now) in
    let end : c.loop-place.place ≡ 32 = omega (arith, c.loop-place.auto.place-end, c.loop-place-test.false) in
    ap bin_with (fill_by_all f c.loop-place.self.satellites 32 no_tracking c.loop-place.invariant.size (λ k lt.
    let below : k < c.loop-place.place = omega (arith, lt, end) in
    c.loop-place.invariant.filled before stands last k below))
