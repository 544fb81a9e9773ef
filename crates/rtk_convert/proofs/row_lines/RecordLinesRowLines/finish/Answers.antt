use Rattle.std.proofs.Common.{◌∙◌, sym, ap, Bool}
use Rattle.rtk_rinex.specs.MixedRecord.{mixed_record_text}
use Rattle.rtk_convert.proofs.RowLinesLemmas.{gps-record}
use Rattle.rtk_convert.proofs.row_lines.RecordLinesRowLines.finish.Goals as goal

pub returns : goal.returns
returns c = record {
  text = λ doppler rows h. c.finish.ensures.text rows h.holds.holds ∙ gps-record (record { time = c.args.time; rows = rows }) h.holds.satellites
      ∙ ap (λ (d : Bool). mixed_record_text d (record { time = c.args.time; rows = rows })) (sym h.plain);
}
