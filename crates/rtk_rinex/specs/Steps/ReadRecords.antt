-- The records that were read so far: they begin the text.
use Rattle.std.specs.Prelude.{◌≡◌, ◌≢◌, ◌⊎◌, ℕ, List, [], ◌∷◌, ◌++◌, length, flat_map, All, Option, None}
use Rattle.rtk_rinex.specs.Record.{EpochTableView, satellite_line, record_text}
use Rattle.rtk_rinex.specs.Table.{IsTableRow, IsTableEpoch}
use Rattle.rtk_rinex.specs.CheckLine.{IsNextTime}
use Rattle.rtk_rinex.specs.CheckText.{AreRows, AreEpochs, satellite_lines}
use Rattle.rtk_rinex.specs.declared.epoch_table.SatelliteRow.{SatelliteRow}

-- the line of a row of n codes with this satellite
abbrev pub IsRowLine : ℕ → List ℕ → ℕ → Type 0
IsRowLine n line s = (r : SatelliteRow) × IsTableRow n r × (line ≡ satellite_line r) × (r.satellite ≡ s)

-- the lines of `due` rows begin the text
pub record ReadsRows (n due : ℕ) (bytes rest : List ℕ) : Type 0 where
  pub rows : List SatelliteRow
  pub are_rows : AreRows n None rows
  pub count : length rows ≡ due
  pub text : bytes ≡ flat_map satellite_line rows ++ rest

-- no epoch line begins in this text: it has no `>`
abbrev pub HasNoMark : List ℕ → Type 0
HasNoMark text = All (λ x. x ≢ 62) text

-- what is written for a row has no `>`
abbrev pub WritesRows : (SatelliteRow → List ℕ) → Type 0
WritesRows line_of = (r : SatelliteRow) → HasNoMark (line_of r)

-- nothing, or a text that begins with the `>` of an epoch line
abbrev pub IsEndOrRecord : List ℕ → Type 0
IsEndOrRecord text = (text ≡ []) ⊎ ((rest : List ℕ) × (text ≡ 62 ∷ rest))

-- the record of some epoch begins the text
abbrev pub BeginsWithRecord : ℕ → List ℕ → Type 0
BeginsWithRecord n bytes = (e : EpochTableView) × (rest : List ℕ) × IsTableEpoch n e × (bytes ≡ record_text e ++ rest)

-- the record of an epoch begins the text
pub record ReadsRecord (n first : ℕ) (last : Option ℕ) (time due : ℕ) (bytes rest : List ℕ) : Type 0 where
  pub rows : List SatelliteRow
  pub is_epoch : IsTableEpoch n (record { time = time; rows = rows })
  pub next : IsNextTime first last time
  pub count : length rows ≡ due
  pub text : bytes ≡ record_text (record { time = time; rows = rows }) ++ rest

-- the text is a sequence of good records
pub record ReadsRecords (n first records rows : ℕ) (bytes : List ℕ) : Type 0 where
  pub epochs : List EpochTableView
  pub are_epochs : AreEpochs n first None epochs
  pub count : length epochs ≡ records
  pub satellites : satellite_lines epochs ≡ rows
  pub text : bytes ≡ flat_map record_text epochs
