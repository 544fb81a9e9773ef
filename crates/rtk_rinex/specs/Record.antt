-- The record of an epoch (RINEX 3.05, Table A3).
-- Source: RINEX 3.05, Table A3
use Rattle.std.specs.Prelude.{◌≡◌, ◌<◌, ℕ, ◌+◌, ◌/◌, ◌%◌, List, [], ◌∷◌, ◌++◌, length, replicate, codes, decimal, ℤ, pos, negsuc, int_le, Bool, true, false, ◌==◌, not, ◌&&◌, ◌||◌, if◌then◌else◌, Option, Some, None, is_some, min, max, All, AllPairs}
use Rattle.std.specs.Int.{IsInRange}
use Rattle.std.specs.List.{flat_map, filter, list_any}
use Rattle.std.specs.Ordering.{int_eq}
use Rattle.rtk_obs.specs.declared.time.Civil.{Civil}
use Rattle.rtk_obs.specs.CivilText.{last_digits}
use Rattle.rtk_rinex.specs.Columns.{right, fixed, decimals, seconds_of}
use Rattle.rtk_obs.specs.Reading.{IsMoment, reading_of}
use Rattle.rtk_rinex.specs.declared.epoch_table.Observed.{Observed}
use Rattle.rtk_rinex.specs.declared.epoch_table.SatelliteRow.{SatelliteRow}

-- an epoch: its moment, and its satellites with what each listed code shows
pub record EpochTableView : Type 0 where
  pub time : ℕ
  pub rows : List SatelliteRow

-- constant
-- a strength in thousandths of a dB-Hz: 0.25 to 63.75 dB-Hz in steps of a quarter (RTCM 10403.3,
-- DF015)
abbrev pub IsStrengthOrNone : Option ℕ → Type 0
IsStrengthOrNone None = Unit {0}
IsStrengthOrNone (Some s) = IsInRange 250 63_750 s × (s % 250 ≡ 0)

-- formula
-- a satellite of GPS, and the strengths of its codes (this project's rule)
pub record IsSatelliteRow (r : SatelliteRow) : Type 0 where
  pub satellite : IsInRange 1 32 r.satellite
  pub strengths : All (λ o. IsStrengthOrNone o.strength_millidbhz) r.observed.items

-- an epoch: good rows, and the satellites rise (this project's rule)
pub record IsEpochTableView (e : EpochTableView) : Type 0 where
  pub time : IsMoment e.time
  pub rows : All IsSatelliteRow e.rows
  pub rise : AllPairs (λ a b. a.satellite < b.satellite) e.rows

-- each satellite has as many observations as there are codes (this project's rule)
abbrev pub HasWidth : ℕ → List SatelliteRow → Type 0
HasWidth n rows = All (λ r. length r.observed.items ≡ n) rows

-- formula
-- a value in thousandths that F14.3 has room for, and not 0, which means no value
abbrev pub is_written : ℤ → Bool
is_written v = not (int_eq v (pos 0)) && int_le (negsuc 999_999_999_998) v && int_le v (pos 9_999_999_999_999)

-- formula
-- F14.3 and two digits, or 16 blanks if no value is written
abbrev pub observation : Option ℤ → ℕ → ℕ → List ℕ
observation None first second = replicate 16 32
observation (Some v) first second = if is_written v then fixed 3 14 v ++ first ∷ second ∷ [] else replicate 16 32

-- formula
-- the signal strength digit: a sixth of the strength in dB-Hz, at least 1 and at most 9 (RINEX
-- 3.05); a blank without strength
abbrev pub strength_digit : Option ℕ → ℕ
strength_digit None = 32
strength_digit (Some s) = 48 + min (max (s / 6000) 1) 9

-- formula
-- the loss-of-lock indicator: bit 0 is a cycle slip, bit 1 an open half-cycle ambiguity; a blank
-- without either
abbrev pub lli_digit : Bool → Bool → ℕ
lli_digit slip half = if slip || half then 48 + (if slip then 1 else 0) + (if half then 2 else 0) else 32

-- a strength as a value (this project's rule)
abbrev pub strength_value : Option ℕ → Option ℤ
strength_value None = None
strength_value (Some s) = Some (pos s)

-- formula
-- what a code shows in a file without Doppler shifts: pseudorange, carrier phase and signal strength; only the
-- phase has a loss-of-lock indicator, and the strength itself has no digits
abbrev pub observations : Observed → List ℕ
observations o =
    observation o.range_mm 32 (strength_digit o.strength_millidbhz)
    ++ observation o.phase_millicycles (lli_digit o.slip o.half) (strength_digit o.strength_millidbhz)
    ++ observation (strength_value o.strength_millidbhz) 32 32

-- what a code shows without any value
abbrev pub no_observation : Observed
no_observation = record { range_mm = None; phase_millicycles = None; doppler_millihertz = None; strength_millidbhz = None; slip = false; half = false }

-- there is a value, and it is written (this project's rule)
abbrev pub is_present : Option ℤ → Bool
is_present None = false
is_present (Some v) = is_written v

-- an observation of the code is written (this project's rule)
abbrev pub has_observation : Observed → Bool
has_observation o = is_present o.range_mm || is_present o.phase_millicycles || is_some o.strength_millidbhz

-- the satellite has a line: an observation of a listed code is written (this project's rule)
abbrev pub has_line : SatelliteRow → Bool
has_line r = list_any has_observation r.observed.items

-- ---- files with Doppler shifts (true), and without them

-- formula
-- what a code shows in a file with Doppler shifts: the shift stands between the phase and the strength, and has no
-- digits (this project's choice)
abbrev pub observations_with_doppler : Observed → List ℕ
observations_with_doppler o =
    observation o.range_mm 32 (strength_digit o.strength_millidbhz)
    ++ observation o.phase_millicycles (lli_digit o.slip o.half) (strength_digit o.strength_millidbhz)
    ++ observation o.doppler_millihertz 32 32
    ++ observation (strength_value o.strength_millidbhz) 32 32

-- what a code shows
abbrev pub code_text : Bool → Observed → List ℕ
code_text false = observations
code_text true = observations_with_doppler

-- how many columns a code has
abbrev pub code_width : Bool → ℕ
code_width false = 48
code_width true = 64

-- an observation of the code is written, be it the shift (this project's rule)
abbrev pub has_observation_or_doppler : Observed → Bool
has_observation_or_doppler o = has_observation o || is_present o.doppler_millihertz

-- an observation of the code is written
abbrev pub is_shown : Bool → Observed → Bool
is_shown false = has_observation
is_shown true = has_observation_or_doppler

-- the satellite has a line (this project's rule)
abbrev pub has_line_in : Bool → SatelliteRow → Bool
has_line_in doppler r = list_any (is_shown doppler) r.observed.items

-- formula
-- a character before a text without the blanks at its end (this project's rule)
abbrev pub before_trimmed : ℕ → List ℕ → List ℕ
before_trimmed x [] = if x == 32 then [] else x ∷ []
before_trimmed x (y ∷ ys) = x ∷ y ∷ ys

-- a text without the blanks at its end (this project's rule)
unfoldable pub trim_end : List ℕ → List ℕ
trim_end [] = []
trim_end (x ∷ xs) = before_trimmed x (trim_end xs)

-- formula
-- the line of a satellite: G and two digits, then its observations; blanks at the end are left out
abbrev pub satellite_line : SatelliteRow → List ℕ
satellite_line r = trim_end (71 ∷ last_digits 2 r.satellite ++ flat_map observations r.observed.items) ++ 10 ∷ []

-- formula
-- the epoch line up to the minute: >, 1X, I4, 4(1X,I2.2)
abbrev pub epoch_date_text : Civil → List ℕ
epoch_date_text c =
    62 ∷ 32 ∷ last_digits 4 c.year ++ 32 ∷ last_digits 2 c.month ++ 32 ∷ last_digits 2 c.day
    ++ 32 ∷ last_digits 2 c.hour ++ 32 ∷ last_digits 2 c.minute

-- formula
-- the columns of the epoch line of a date and time and a count of satellites: after the minute
-- F11.7, 2X, I1 (0: no event), I3
abbrev pub epoch_columns : Civil → ℕ → List ℕ
epoch_columns c count =
    epoch_date_text c ++ right 11 (decimals 7 false (seconds_of c)) ++ codes "  0" ++ right 3 (decimal count)

-- formula
-- the epoch line
abbrev pub epoch_line : Civil → ℕ → List ℕ
epoch_line c count = epoch_columns c count ++ 10 ∷ []

-- the epoch line and the lines of these satellites; nothing without satellites (this project's rule)
abbrev pub lines_of : Civil → List SatelliteRow → List ℕ
lines_of c [] = []
lines_of c (r ∷ rows) = epoch_line c (length (r ∷ rows)) ++ flat_map satellite_line (r ∷ rows)

-- formula
-- the record of an epoch: the satellites without a line are left out (this project's rule)
unfoldable pub record_text : EpochTableView → List ℕ
record_text e = lines_of (reading_of e.time) (filter has_line e.rows)
