-- Laws on files of which some systems alone are kept.
use Rattle.std.specs.Prelude.{◌≡◌, ◌≢◌, ◌↔◌, ℕ, true, List, [], Any}
use Rattle.rtk_rinex.specs.declared.epoch_table.SatelliteRow.{SatelliteRow}
use Rattle.rtk_rinex.specs.MixedTable.{MixedTable, IsMixedTable}
use Rattle.rtk_rinex.specs.Record.{EpochTableView}
use Rattle.rtk_rinex.specs.declared.system_flags.SystemFlags.{SystemFlags}
use Rattle.rtk_cut.specs.KeptSystems.{keeps_row, kept_codes, kept_epochs, kept_table}

-- if a code is kept, a well-formed file stays well-formed
abbrev pub KeptFilesAreTables : Type 0
KeptFilesAreTables = (ks : SystemFlags) (t : MixedTable) → IsMixedTable t → kept_codes ks t.head.listed ≢ [] → IsMixedTable (kept_table ks t)

-- a record of this moment has this row: a satellite with all that its codes show, and so with its slips
abbrev pub HasRowAt : ℕ → SatelliteRow → List EpochTableView → Type 0
HasRowAt time row es = Any (λ e. (e.time ≡ time) × Any (λ r. r ≡ row) e.rows) es

-- each row of a satellite that is kept stays as it is, at its moment, and no other row is there
abbrev pub KeptRowsStay : Type 0
KeptRowsStay =
    (ks : SystemFlags) (es : List EpochTableView) (time : ℕ) (row : SatelliteRow)
    → HasRowAt time row (kept_epochs ks es) ↔ ((keeps_row ks row ≡ true) × HasRowAt time row es)
