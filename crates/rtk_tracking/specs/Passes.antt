-- The passes and outages of a satellite, and which of its loss-of-lock digits are rises, returns and slips
-- (this project's rule). What came of a satellite is listed newest first.
use Rattle.std.specs.Prelude.{ℕ, zero, suc, ◌+◌, ◌-◌, ◌*◌, ◌==◌, nat_lt, Bool, true, false, not, ◌&&◌, ◌||◌, List, [], ◌∷◌, map, Option, None, Some, is_some, unwrap_or, if◌then◌else◌}
use Rattle.std.specs.List.{list_any}
use Rattle.rtk_rinex.specs.Record.{EpochTableView}
use Rattle.rtk_rinex.specs.declared.epoch_table.Observed.{Observed}
use Rattle.rtk_tracking.specs.Epochs.{observed_in, shows_phase}
use Rattle.rtk_tracking.specs.Interval.{nearness_of}

-- a moment, and what the codes of a satellite show in the epoch then; nothing if it has no row
pub record Sighting : Type 0 where
  pub time : ℕ
  pub observed : List Observed

-- what came of a satellite
abbrev pub sightings_of : ℕ → List EpochTableView → List Sighting
sightings_of satellite es = map (λ e. record { time = e.time; observed = observed_in satellite e.rows }) es

-- some code has a phase
abbrev pub has_phase : List Observed → Bool
has_phase os = list_any (λ o. is_some o.phase_millicycles) os

-- the digit of the code at this place has bit 0 (RINEX 3.05, Table A3)
abbrev pub has_bit_0 : ℕ → List Observed → Bool
has_bit_0 place [] = false
has_bit_0 zero (o ∷ os) = o.slip
has_bit_0 (suc place) (o ∷ os) = has_bit_0 place os

-- the moment of the last phase
abbrev pub last_phase : List Sighting → Option ℕ
last_phase [] = None
last_phase (s ∷ before) = if has_phase s.observed then Some s.time else last_phase before

-- the moment of the last record of the file
abbrev pub last_record : List Sighting → Option ℕ
last_record [] = None
last_record (s ∷ before) = Some s.time

-- ---- absences

-- formula
-- the absence of a satellite in ms: the time from its last phase to its next one, less one interval
abbrev pub absence_of : Option ℕ → ℕ → ℕ → ℕ
absence_of interval last t = t - last - unwrap_or interval 0

-- formula
-- an absence is longer than so many ms, by more than twice the nearness that the interval has
abbrev pub is_longer : Option ℕ → ℕ → ℕ → ℕ → Bool
is_longer interval longest last t = nat_lt (longest + 2 * nearness_of interval) (absence_of interval last t)

-- no phase came before, or the absence is longer than it may be within a pass: 1,800 s
abbrev pub is_away : Option ℕ → Option ℕ → ℕ → Bool
is_away interval None t = true
is_away interval (Some last) t = is_longer interval 1_800_000 last t

-- the absence is longer than 120 s
abbrev pub is_out : Option ℕ → Option ℕ → ℕ → Bool
is_out interval None t = false
is_out interval (Some last) t = is_longer interval 120_000 last t

-- the two moments are there and the same
abbrev pub is_same_moment : Option ℕ → Option ℕ → Bool
is_same_moment None b = false
is_same_moment (Some a) None = false
is_same_moment (Some a) (Some b) = a == b

-- the last record has the last phase: the file has no record between that phase and the next one
abbrev pub is_gap_of_file : List Sighting → Bool
is_gap_of_file before = is_same_moment (last_phase before) (last_record before)

-- ---- passes and outages

-- formula
-- a pass begins: with the first phase of a satellite, or with one after it was away
abbrev pub begins_pass : Option ℕ → List Sighting → Sighting → Bool
begins_pass interval before s = has_phase s.observed && is_away interval (last_phase before) s.time

-- formula
-- an outage ends: with a phase after an absence within a pass, in which the file has records
abbrev pub ends_outage : Option ℕ → List Sighting → Sighting → Bool
ends_outage interval before s =
    has_phase s.observed
    && (not (is_away interval (last_phase before) s.time) && (is_out interval (last_phase before) s.time && not (is_gap_of_file before)))

-- the absence in ms before an epoch; 0 if no phase came before it
abbrev pub absence_before : Option ℕ → Option ℕ → ℕ → ℕ
absence_before interval None t = 0
absence_before interval (Some last) t = absence_of interval last t

-- formula
-- how long in ms the outage was that ends with an epoch
abbrev pub outage_before : Option ℕ → List Sighting → Sighting → Option ℕ
outage_before interval before s =
    if ends_outage interval before s then Some (absence_before interval (last_phase before) s.time) else None

-- a pass begins, or an outage ends
abbrev pub is_break : Option ℕ → List Sighting → Sighting → Bool
is_break interval before s = begins_pass interval before s || ends_outage interval before s

-- the code at this place has had a phase since the last pass began
abbrev pub had_phase : Option ℕ → ℕ → List Sighting → Bool
had_phase interval place [] = false
had_phase interval place (s ∷ before) =
    shows_phase place s.observed || (not (begins_pass interval before s) && had_phase interval place before)

-- the code at this place has had a phase since the last pass began and the last outage ended
abbrev pub kept_phase : Option ℕ → ℕ → List Sighting → Bool
kept_phase interval place [] = false
kept_phase interval place (s ∷ before) =
    shows_phase place s.observed || (not (is_break interval before s) && kept_phase interval place before)

-- the code at this place has had a phase earlier in the pass that goes on
abbrev pub is_known : Option ℕ → ℕ → List Sighting → Sighting → Bool
is_known interval place before s = not (begins_pass interval before s) && had_phase interval place before

-- and since the last outage in it
abbrev pub is_kept : Option ℕ → ℕ → List Sighting → Sighting → Bool
is_kept interval place before s = not (is_break interval before s) && kept_phase interval place before

-- ---- the three kinds of bit 0

-- formula
-- a rise: bit 0 at the first phase of a code in a pass
abbrev pub is_rise : Option ℕ → ℕ → List Sighting → Sighting → Bool
is_rise interval place before s = has_bit_0 place s.observed && not (is_known interval place before s)

-- formula
-- a return: bit 0 at its first phase after an outage
abbrev pub is_return : Option ℕ → ℕ → List Sighting → Sighting → Bool
is_return interval place before s = has_bit_0 place s.observed && (is_known interval place before s && not (is_kept interval place before s))

-- formula
-- a rise or a return: bit 0 at the first phase of a code in a pass or after an outage
abbrev pub is_rise_or_return : Option ℕ → ℕ → List Sighting → Sighting → Bool
is_rise_or_return interval place before s = has_bit_0 place s.observed && not (is_kept interval place before s)

-- formula
-- a slip: each other bit 0
abbrev pub is_slip : Option ℕ → ℕ → List Sighting → Sighting → Bool
is_slip interval place before s = has_bit_0 place s.observed && is_kept interval place before s
