use Rattle.std.proofs.Common.{◌≡◌, ◌∙◌, ℕ, length, Option, ap, refl}
use Rattle.rtk_rinex.specs.Record.{EpochTableView}
use Rattle.rtk_tracking.specs.Epochs.{newest_moment}
use Rattle.rtk_quality.specs.Outages.{all_outages}
use Rattle.rtk_quality.specs.Runs.{ended_runs}
use Rattle.rtk_quality.specs.Bursts.{ended_bursts}
use Rattle.rtk_quality.specs.declared.record_counts.RecordCounts.{RecordCounts}
use Rattle.rtk_quality.proofs.EventLemmas.{moments-noted}
use Rattle.rtk_quality.proofs.GapLemmas.{gaps-noted}
use Rattle.rtk_quality.proofs.HourLemmas.{hours-noted}
use Rattle.rtk_quality.proofs.file_counts.FileCounts.note_epoch.Goals as goal

pub returns-clause-counts : goal.returns-clause-counts
returns-clause-counts c = λ most es rise stands.
    let interval : Option ℕ = c.args.interval in
    let last : c.args.self.now.records.last ≡ newest_moment es = ap (λ (r : RecordCounts). r.last) stands.records in
    let record_ms : c.ms_of-record_ms.result ≡ newest_moment es = c.ms_of-record_ms.ensures ∙ last in
    let time : ℕ = c.args.time in
    let e : EpochTableView = record { time = c.args.time; rows = c.args.rows.now } in
    let fresh = c.note_satellites.ensures.satellites most interval time es stands.satellites in
    record {
      records = c.note_record-2.ensures es e refl refl stands.records;
      satellites = c.in_ok-notes.ensures.satellites most es rise record_ms fresh;
      codes = c.in_ok-notes.ensures.codes most es (length c.args.codes.now) rise record_ms fresh stands.codes;
      missing = stands.missing;
      ended = c.in_ok-notes.ensures.ended most es rise record_ms fresh stands.ended;
      hours = hours-noted interval c.args.unit_ms c.args.codes.now e es c.args.self.now.records.last _ c.args.self.now.hours _
          last (c.in_ok-notes.ensures.locks most es rise record_ms fresh) stands.hours c.in_ok-note_record.ensures;
      gaps = gaps-noted c.args.unit_ms e es c.args.self.now.records.last c.args.time c.gap_between.result c.args.self.now.gaps _ last refl
          c.gap_between.ensures stands.gaps c.in_ok-note_if_any.ensures;
      outages = c.in_ok-notes.ensures.outages most es (all_outages interval es) rise record_ms fresh stands.outages;
      runs = c.in_ok-notes.ensures.runs most es (ended_runs interval es) rise record_ms fresh stands.runs;
      bursts = c.in_ok-notes.ensures.bursts most es (ended_bursts interval es) rise record_ms fresh stands.bursts;
      moments = moments-noted interval e es c.args.time _ c.moment_if_several.result c.args.self.now.moments _ refl
          (c.in_ok-notes.ensures.together most es rise record_ms fresh) c.moment_if_several.ensures stands.moments c.in_ok-note_if_any-2.ensures;
    }
