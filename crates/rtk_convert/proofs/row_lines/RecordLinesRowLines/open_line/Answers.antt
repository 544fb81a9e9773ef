use Rattle.std.proofs.Common.{arith, Bool, false, List, replicate}
use Rattle.std.proofs.lemmas.Result.{on_ok_weaker}
use Rattle.rtk_rinex.specs.declared.epoch_table.SatelliteRow.{SatelliteRow}
use Rattle.rtk_rinex.specs.Record.{no_observation}
use Rattle.rtk_rinex.specs.RecordLines.{HasOpenLine}
use Rattle.rtk_convert.specs.Steps.RowLines.{HasGpsRows}
use Rattle.rtk_convert.proofs.RowLinesLemmas.{gps-room, gps-kept, gps-opened}
use Rattle.rtk_convert.proofs.row_lines.RecordLinesRowLines.open_line.Goals as goal

pub open_line-requires-clause-room : goal.open_line-requires-clause-room
open_line-requires-clause-room c = omega (arith, gps-room c.args.self.now c.requires.room)

pub returns-clause-rows : goal.returns-clause-rows
returns-clause-rows c = gps-kept c.args.self.now c.open_line.new.self c.open_line.ensures.lines

pub returns-clause-open : goal.returns-clause-open
returns-clause-open c =
    on_ok_weaker c.open_line.result
    (λ (opened : HasOpenLine false c.open_line.new.self (replicate c.args.codes no_observation)). λ (doppler : Bool) (rows : List SatelliteRow) (held : HasGpsRows c.args.self.now doppler rows).
    gps-opened doppler c.args.self.now c.open_line.new.self rows (replicate c.args.codes no_observation) held opened)
    c.open_line.ensures.open
