use Rattle.std.proofs.Common.{◌∙◌, Bool, ap}
use Rattle.rtk_rinex.specs.MixedRecord.{mixed_record_text}
use Rattle.rtk_convert.proofs.row_lines.MixedRecordLinesRowLines.finish.Goals as goal

pub returns : goal.returns
returns c = record {
  text = λ doppler rows h. c.finish.ensures.text rows h.holds ∙ ap (λ (d : Bool). mixed_record_text d (record { time = c.args.time; rows = rows })) h.shows;
}
