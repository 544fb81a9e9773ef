-- The records of a file that are still to be read.
use Rattle.std.specs.Prelude.{◌≡◌, ◌≤◌, ℕ, List, [], ◌∷◌, flat_map, All}
use Rattle.rtk_rinex.specs.Record.{EpochTableView, record_text}
use Rattle.rtk_rinex.specs.Table.{IsTableEpoch}

-- what is left of the text of a file of this number of codes
pub record RecordsView : Type 0 where
  pub code_count : ℕ
  pub text : List ℕ

-- formula
-- these are the epochs whose records are left
pub record AreLeft (r : RecordsView) (epochs : List EpochTableView) : Type 0 where
  pub are_epochs : All (IsTableEpoch r.code_count) epochs
  pub text : r.text ≡ flat_map record_text epochs

-- a file has 16 codes at most, and what is left are the records of some epochs
abbrev pub IsRecordsView : RecordsView → Type 0
IsRecordsView r = (r.code_count ≤ 16) × ∥ ((epochs : List EpochTableView) × AreLeft r epochs) ∥₁

-- formula
-- this text is the record of the first of these epochs, which `epoch` is, and the others are left
abbrev pub IsNextOf : List EpochTableView → List ℕ → EpochTableView → RecordsView → Type 0
IsNextOf [] text epoch left = ⊥
IsNextOf (e ∷ epochs) text epoch left = (text ≡ record_text e) × (epoch ≡ e) × AreLeft left epochs

-- this is the moment of the first of these epochs, and the others are left
abbrev pub IsNextTimeOf : List EpochTableView → ℕ → RecordsView → Type 0
IsNextTimeOf [] time left = ⊥
IsNextTimeOf (e ∷ epochs) time left = (time ≡ e.time) × AreLeft left epochs
