use Rattle.std.proofs.Common.{◌≤◌}
use Rattle.std.proofs.lemmas.List.Elements.{All-nil}
use Rattle.rtk_rinex.specs.declared.epoch_table.SatelliteRow.{SatelliteRow}
use Rattle.rtk_convert.proofs.row_lines.RecordLinesRowLines.restart.Goals as goal

pub returns : goal.returns
returns c = record { holds = record { holds = c.restart.ensures; satellites = All-nil (λ (r : SatelliteRow). r.satellite ≤ 32) }; plain = c.requires }
