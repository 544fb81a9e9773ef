-- What the steps of a record that is written satellite by satellite do, whatever the names of its satellites are.
use Rattle.std.specs.Prelude.{◌≡◌, ◌<◌, ◌+◌, ℕ, Bool, true, false, List, [], ◌∷◌, ◌++◌, drop}
use Rattle.std.specs.List.{flat_map, list_any}
use Rattle.rtk_obs.specs.Reading.{reading_of}
use Rattle.rtk_rinex.specs.declared.epoch_table.Observed.{Observed}
use Rattle.rtk_rinex.specs.Record.{is_shown, code_text, trim_end, epoch_line}
use Rattle.rtk_rinex.specs.RecordLines.{RecordLinesView, KeepsLines}

-- the line of a satellite of this name whose codes show these values, with Doppler shifts (true) or without them
abbrev pub named_line : Bool → List ℕ → List Observed → List ℕ
named_line doppler name observed = trim_end (name ++ flat_map (code_text doppler) observed) ++ 10 ∷ []

-- the line of a satellite of this name comes after the others, if its codes show a value
pub record AddsLine (doppler : Bool) (name : List ℕ) (observed : List Observed) (old new : RecordLinesView) : Type 0 where
  pub line : list_any (is_shown doppler) observed ≡ true → drop 36 new.text ≡ drop 36 old.text ++ named_line doppler name observed
  pub one : list_any (is_shown doppler) observed ≡ true → new.count ≡ old.count + 1
  pub none : list_any (is_shown doppler) observed ≡ false → KeepsLines old new

-- the epoch line is written before the lines, if there are any
pub record PutsEpochLine (time : ℕ) (old new : RecordLinesView) : Type 0 where
  pub count : new.count ≡ old.count
  pub lines : drop 36 new.text ≡ drop 36 old.text
  pub some : 0 < old.count → new.text ≡ epoch_line (reading_of time) old.count ++ drop 36 old.text
  pub none : old.count ≡ 0 → new.text ≡ []
