-- The text of a record that is written satellite by satellite.
use Rattle.std.specs.Prelude.{◌≡◌, ◌<◌, ◌≤◌, ◌+◌, ◌-◌, ◌*◌, ℕ, Bool, false, List, [], ◌∷◌, ◌++◌, length, drop, max, replicate, slice_index_or}
use Rattle.std.specs.List.{flat_map, filter, list_any}
use Rattle.rtk_rinex.specs.declared.epoch_table.Observed.{Observed}
use Rattle.rtk_rinex.specs.declared.epoch_table.SatelliteRow.{SatelliteRow}
use Rattle.rtk_rinex.specs.Record.{has_line, code_text, code_width, is_shown, satellite_line, trim_end}

pub record RecordLinesView : Type 0 where
  -- the 36 columns of the epoch line and the lines of the satellites, or nothing without a satellite
  pub text : List ℕ
  -- how many satellites have a line
  pub count : ℕ
  -- the columns after the text or the epoch line, in which the next line is written
  pub rest : List ℕ
  -- an observation is written in the next line
  pub is_written : Bool

-- ---- the lines

-- after the epoch line the text has the lines of the satellites of these rows that have one
pub record HoldsLines (l : RecordLinesView) (rows : List SatelliteRow) : Type 0 where
  pub lines : drop 36 l.text ≡ flat_map satellite_line (filter has_line rows)
  pub count : l.count ≡ length (filter has_line rows)

-- the text and the count are the same
pub record KeepsLines (old new : RecordLinesView) : Type 0 where
  pub text : new.text ≡ old.text
  pub count : new.count ≡ old.count

-- ---- the line that is written code by code

-- the codes of the next line show these values, with Doppler shifts (true) or without them: their columns stand
-- after those of the satellite, and are followed by blanks, of which the first is for the line feed
pub record HasOpenLine (doppler : Bool) (l : RecordLinesView) (observed : List Observed) : Type 0 where
  pub few : length observed ≤ 16
  pub room : 4 + code_width doppler * length observed ≤ length l.rest
  pub columns : l.rest ≡ replicate 3 32 ++ (flat_map (code_text doppler) observed ++ replicate (length l.rest - (3 + code_width doppler * length observed)) 32)
  pub written : l.is_written ≡ list_any (is_shown doppler) observed

-- the code at this place shows nothing
pub record IsFreeIn (doppler : Bool) (observed : List Observed) (place : ℕ) : Type 0 where
  pub inside : place < length observed
  pub free : (d : Observed) → is_shown doppler (slice_index_or observed place d) ≡ false

-- a line is open in which the code at this place shows nothing
pub record HasFreeCode (doppler : Bool) (l : RecordLinesView) (place : ℕ) : Type 0 where
  pub observed : List Observed
  pub open_line : HasOpenLine doppler l observed
  pub free : IsFreeIn doppler observed place

-- the line of a satellite of this name with these columns, of which the first three are those of the name
abbrev pub ended : List ℕ → List ℕ → List ℕ
ended name columns = trim_end (name ++ drop 3 columns) ++ 10 ∷ []

-- ---- the text that is kept

-- a text of these lines, where the next line begins, and what is written of that line up to its end; blanks follow it
pub record IsKeptText (text : List ℕ) (len at end count : ℕ) : Type 0 where
  pub few : count ≤ 221
  pub within : end ≤ length text
  pub from : len ≤ end
  pub place : at ≡ max len 36
  pub short : len ≤ 36 + 1028 * count
  pub none : count ≡ 0 → len ≡ 0
  pub some : 0 < count → 36 ≤ len
  pub blank : drop end text ≡ replicate (length text - end) 32
  pub begun : len < end → max len 36 + 3 ≤ end
  pub fits : len < end → end < length text
  pub bound : end ≤ max len 36 + 1027
  pub most : length text ≤ 259_092
