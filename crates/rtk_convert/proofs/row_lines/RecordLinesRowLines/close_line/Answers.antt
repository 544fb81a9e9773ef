use Rattle.std.proofs.Common.{◌≤◌, [], ◌∷◌, arith}
use Rattle.std.proofs.lemmas.List.Elements.{All-nil, All-cons, All-append}
use Rattle.rtk_rinex.specs.declared.epoch_table.SatelliteRow.{SatelliteRow}
use Rattle.rtk_convert.proofs.RowLinesLemmas.{gps-room}
use Rattle.rtk_convert.proofs.row_lines.RecordLinesRowLines.close_line.Goals as goal

pub close_line-requires : goal.close_line-requires
close_line-requires c = omega (arith, gps-room c.args.self.now c.requires.room)

pub returns : goal.returns
returns c = λ doppler rows observed h opened.
    let row : SatelliteRow = record { satellite = c.args.satellite; observed = record { items = observed } } in
    let within = λ (r : SatelliteRow). r.satellite ≤ 32 in
    record {
      holds = record {
        holds = c.close_line.ensures rows observed h.holds.holds opened.open_line;
        satellites = All-append within rows (row ∷ []) h.holds.satellites (All-cons within row [] c.requires.within (All-nil within));
      };
      plain = h.plain;
    }
