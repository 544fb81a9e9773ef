-- A file of any systems, system by system: the epochs of each (this project's rule).
use Rattle.std.specs.Prelude.{◌==◌, Bool, List, map}
use Rattle.std.specs.List.{filter}
use Rattle.rtk_message.specs.declared.system.System.{System}
use Rattle.rtk_obs.specs.SatelliteIndex.{system_at, letter_of}
use Rattle.rtk_rinex.specs.Record.{EpochTableView}
use Rattle.rtk_rinex.specs.declared.epoch_table.SatelliteRow.{SatelliteRow}

-- a row is of a satellite of this system
abbrev pub is_row_of : System → SatelliteRow → Bool
is_row_of s r = letter_of (system_at r.satellite) == letter_of s

-- an epoch with the satellites of a system alone; it may have none of them
abbrev pub epoch_of_system : System → EpochTableView → EpochTableView
epoch_of_system s e = record { time = e.time; rows = filter (is_row_of s) e.rows }

-- formula
-- the epochs of a system: all epochs of the file, each with its satellites alone
abbrev pub epochs_of_system : System → List EpochTableView → List EpochTableView
epochs_of_system s epochs = map (epoch_of_system s) epochs
