use Rattle.std.proofs.Common.{ap, sym}
use Rattle.rtk_quality.specs.declared.record_counts.RecordCounts.{RecordCounts}
use Rattle.rtk_quality.proofs.GapLemmas.{gaps-noted}
use Rattle.rtk_quality.proofs.file_times.FileTimes.note_record.Goals as goal

pub returns : goal.returns
returns c = λ es e at rows stands.
    record {
      records = c.note_record.ensures es e at rows stands.records;
      gaps = gaps-noted c.args.unit_ms e es c.args.self.now.records.last c.args.time c.gap_between.result c.args.self.now.gaps _ (ap (λ (r : RecordCounts). r.last) stands.records) (sym at)
          c.gap_between.ensures stands.gaps c.in_ok-note_if_any.ensures;
    }
