use Rattle.std.proofs.Common.{ap}
use Rattle.rtk_rinex.specs.MixedRecord.{MixedLinesView}
use Rattle.rtk_rinex.proofs.mixed_record_lines.MixedRecordLines.restart.Goals as goal

pub returns-clause-lines : goal.returns-clause-lines
returns-clause-lines c = record { lines = c.restart.ensures.lines; count = c.restart.ensures.count }

pub returns-clause-doppler : goal.returns-clause-doppler
returns-clause-doppler c = ap (λ (v : MixedLinesView). v.doppler) c.self.view_is
