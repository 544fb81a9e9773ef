use Rattle.std.proofs.Common.{[], ℕ, length, List, Option, sym, subst}
use Rattle.rtk_rinex.specs.Record.{EpochTableView}
use Rattle.rtk_tracking.specs.Epochs.{newest_first}
use Rattle.rtk_quality.specs.Bursts.{ended_bursts}
use Rattle.rtk_quality.specs.Largest.{AreLargest}
use Rattle.rtk_quality.specs.Outages.{all_outages, size_of_outage}
use Rattle.rtk_quality.specs.Records.{unit_of}
use Rattle.rtk_quality.specs.Runs.{ended_runs}
use Rattle.rtk_quality.specs.Standing.{StandForSatellites, StandForMissing, StandsForFile}
use Rattle.rtk_quality.specs.declared.hours.HourCounts.{HourCounts}
use Rattle.rtk_quality.specs.declared.largest.Largest.{Largest}
use Rattle.rtk_quality.specs.declared.outages.Outage.{Outage}
use Rattle.rtk_quality.specs.declared.missing.MissingCodes.{MissingCodes}
use Rattle.rtk_quality.specs.declared.satellite_counts.SatelliteCounts.{SatelliteCounts}
use Rattle.rtk_quality.proofs.HourCountLemmas.{noted-are}
use Rattle.rtk_quality.proofs.HourLawLemmas.{some-unit}
use Rattle.rtk_quality.proofs.OrderLemmas.{newest-first-fall}
use Rattle.rtk_quality.proofs.file_counts.FileCounts.finish.Goals as goal

pub returns-clause-counts : goal.returns-clause-counts
returns-clause-counts c = λ most epochs rise counting.
    let interval : Option ℕ = c.args.interval in
    let es : List EpochTableView = newest_first epochs in
    let before = subst (λ (hours : List HourCounts). StandsForFile c.args.self.now most interval (unit_of interval) c.args.codes.now es hours (ended_runs interval es) (ended_bursts interval es) [])
    (noted-are interval (unit_of interval) c.args.codes.now es (some-unit interval) (newest-first-fall epochs rise)) counting in
    let satellites = subst (λ (xs : List SatelliteCounts). StandForSatellites xs most interval es) (sym c.as_slice.ensures.value) before.satellites in
    record {
      records = before.records;
      satellites = before.satellites;
      ended = before.ended;
      hours = before.hours;
      gaps = before.gaps;
      moments = before.moments;
      outages = subst (λ (kept : Largest Outage). AreLargest size_of_outage kept (all_outages interval es)) (sym c.in_ok-note_last.ensures.outages) before.outages;
      runs = c.in_ok-note_last.ensures.runs most interval es (ended_runs interval es) satellites before.runs;
      bursts = c.in_ok-note_last.ensures.bursts most interval es (ended_bursts interval es) satellites before.bursts;
      codes = before.codes;
      missing = c.in_ok-note_missing.ensures most es [] (subst (λ (xs : List SatelliteCounts). StandForSatellites xs most interval es) (sym c.as_slice-2.ensures.value) before.satellites)
          (subst (λ (xs : List MissingCodes). StandForMissing xs (length c.args.codes.now) most interval es) (sym c.as_slice-3.ensures.value) before.codes) before.missing;
    }
