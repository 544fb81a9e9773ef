-- What the epochs of a file, newest first, have of a satellite.
use Rattle.std.specs.Prelude.{ℕ, ◌+◌, ◌/◌, ◌==◌, Bool, not, ◌&&◌, List, [], ◌∷◌, length, count_by, Option, None, Some, min, max}
use Rattle.std.specs.List.{range_with_len, sum_by}
use Rattle.rtk_rinex.specs.Record.{EpochTableView}
use Rattle.rtk_rinex.specs.declared.epoch_table.Observed.{Observed}
use Rattle.rtk_tracking.specs.Epochs.{observed_in, shows_phase, shown_at}
use Rattle.rtk_tracking.specs.Passes.{Sighting, sightings_of, has_phase, is_rise, is_return, is_slip}

-- an epoch as a satellite is seen in it
abbrev pub sighting_of : ℕ → EpochTableView → Sighting
sighting_of satellite e = record { time = e.time; observed = observed_in satellite e.rows }

-- the satellite has a row
abbrev pub is_seen : List Observed → Bool
is_seen os = not (length os == 0)

-- formula
-- a code is missing: its phase is not there, and another phase of the satellite is
abbrev pub lacks_phase : ℕ → List Observed → Bool
lacks_phase code os = has_phase os && not (shows_phase code os)

-- the digit of the code has bit 1: an open half-cycle ambiguity (RINEX 3.05, Table A3)
abbrev pub has_bit_1 : ℕ → List Observed → Bool
has_bit_1 code os = (shown_at code os).half

-- formula
-- the signal strength digit of a strength, 1 to 9
-- Source: RINEX 3.05, Table A3
abbrev pub level_of : Option ℕ → Option ℕ
level_of None = None
level_of (Some s) = Some (min (max (s / 6000) 1) 9)

-- formula
-- the signal strength digit of a code
abbrev pub level_at : ℕ → List Observed → Option ℕ
level_at code os = level_of (shown_at code os).strength_millidbhz

-- ---- counts

-- formula
-- how often a test holds of a code, of the 16 of each satellite, in an epoch after these earlier ones
abbrev pub times_in_epoch : (ℕ → List Sighting → Sighting → Bool) → List EpochTableView → EpochTableView → ℕ
times_in_epoch test before e =
    sum_by (λ place. count_by (λ code. test code (sightings_of (place + 1) before) (sighting_of (place + 1) e)) (range_with_len 0 16))
    (range_with_len 0 32)

-- how often it holds in these epochs
abbrev pub times_in : (ℕ → List Sighting → Sighting → Bool) → List EpochTableView → ℕ
times_in test [] = 0
times_in test (e ∷ before) = times_in test before + times_in_epoch test before e

-- the slips of a file with this interval
abbrev pub slips_in : Option ℕ → List EpochTableView → ℕ
slips_in interval es = times_in (is_slip interval) es

-- its returns
abbrev pub returns_in : Option ℕ → List EpochTableView → ℕ
returns_in interval es = times_in (is_return interval) es

-- its rises
abbrev pub rises_in : Option ℕ → List EpochTableView → ℕ
rises_in interval es = times_in (is_rise interval) es
