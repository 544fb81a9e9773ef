use Rattle.std.proofs.Common.{◌≤◌, refl}
use Rattle.std.proofs.lemmas.List.Elements.{All-nil}
use Rattle.rtk_rinex.specs.declared.epoch_table.SatelliteRow.{SatelliteRow}
use Rattle.rtk_convert.proofs.row_lines.RecordLinesRowLines.new.Goals as goal

pub returns : goal.returns
returns c = record { holds = record { holds = c.new.ensures; satellites = All-nil (λ (r : SatelliteRow). r.satellite ≤ 32) }; plain = refl }
