use Rattle.std.proofs.Common.{Bool, List, replicate}
use Rattle.std.proofs.lemmas.Result.{on_ok_weaker}
use Rattle.rtk_rinex.specs.declared.epoch_table.SatelliteRow.{SatelliteRow}
use Rattle.rtk_rinex.specs.MixedRecord.{HasOpenMixedLine}
use Rattle.rtk_rinex.specs.Record.{no_observation}
use Rattle.rtk_convert.specs.Steps.RowLines.{HasMixedRows}
use Rattle.rtk_convert.proofs.RowLinesLemmas.{mixed-room, mixed-kept, mixed-opened}
use Rattle.rtk_convert.proofs.row_lines.MixedRecordLinesRowLines.open_line.Goals as goal

pub open_line-requires-clause-room : goal.open_line-requires-clause-room
open_line-requires-clause-room c = mixed-room c.args.self.now c.requires.room

pub returns-clause-rows : goal.returns-clause-rows
returns-clause-rows c = mixed-kept c.args.self.now c.open_line.new.self c.open_line.ensures.lines

pub returns-clause-open : goal.returns-clause-open
returns-clause-open c =
    on_ok_weaker c.open_line.result
    (λ (opened : HasOpenMixedLine c.open_line.new.self (replicate c.args.codes no_observation)). λ (doppler : Bool) (rows : List SatelliteRow) (held : HasMixedRows c.args.self.now doppler rows).
    mixed-opened doppler c.args.self.now c.open_line.new.self rows (replicate c.args.codes no_observation) held c.open_line.ensures.lines opened)
    c.open_line.ensures.open
