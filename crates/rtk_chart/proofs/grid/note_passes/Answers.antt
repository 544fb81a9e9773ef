use Rattle.std.proofs.Common.{◌≡◌, ◌+◌, ℕ, List, ap, ◌∙◌, arith}
use Rattle.std.proofs.lemmas.List.{length-set}
use Rattle.rtk_rinex.specs.declared.epoch_table.SatelliteRow.{SatelliteRow}
use Rattle.rtk_tracking.specs.Epochs.{observed_in}
use Rattle.rtk_tracking.specs.Passes.{sightings_of}
use Rattle.rtk_chart.proofs.GridLemmas.{record-is, passes-more, passes-all}
use Rattle.rtk_chart.proofs.grid.note_passes.Goals as goal

pub loop-place-preserved : goal.loop-place-preserved
loop-place-preserved c =
    let i : ℕ = c.loop-place.place in
    record {
      size = length-set c.loop-place.passes c.from.result c.note_pass.new.pass ∙ c.loop-place.invariant.size;
      noted = λ es stands last.
          passes-more c.args.interval c.args.epoch.now es c.loop-place.passes i c.from.result c.from.result c.ms-time_ms.result c.note_pass.new.pass _ c.observed_in-observed.result.now
          c.from.ensures c.from.ensures c.loop-place-test.true c.loop-place.invariant.size (c.ms-time_ms.ensures.value ∙ c.time.ensures)
          (c.observed_in-observed.ensures ∙ ap (λ (rows : List SatelliteRow). observed_in (i + 1) rows) c.rows-rows.ensures.value)
          (c.loop-place.invariant.noted es stands last) (λ was. c.note_pass.ensures (sightings_of (i + 1) es) was (last ∙ record-is (i + 1) es));
    }

pub returns : goal.returns
returns c = λ es stands last.
    let end : c.loop-place.place ≡ 32 = omega (arith, c.loop-place.auto.place-end, c.loop-place-test.false) in
    passes-all c.args.interval c.args.epoch.now es c.loop-place.passes c.loop-place.place end (c.loop-place.invariant.noted es stands last)
