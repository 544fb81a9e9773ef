-- What the epochs of each bin call for: the marks of each code of each satellite (this project's rule).
use Rattle.std.specs.Prelude.{ℕ, ◌+◌, ◌-◌, ◌*◌, ◌/◌, ◌%◌, ◌==◌, nat_lt, nat_le, Bool, false, ◌&&◌, ◌||◌, List, [], ◌∷◌, map, get_or, replicate, Option, None, Some, if◌then◌else◌}
use Rattle.std.specs.List.{range_with_len}
use Rattle.rtk_rinex.specs.Record.{EpochTableView}
use Rattle.rtk_tracking.specs.Epochs.{newest_moment, observed_in, shows_phase}
use Rattle.rtk_tracking.specs.Extremes.{lesser}
use Rattle.rtk_tracking.specs.Passes.{Sighting, sightings_of, is_rise, is_return, is_slip, outage_before}
use Rattle.rtk_tracking.specs.Interval.{missing_before}
use Rattle.rtk_chart.specs.Epochs.{sighting_of, is_seen, lacks_phase, has_bit_1, level_at}
use Rattle.rtk_chart.specs.Scale.{bin_at}
use Rattle.rtk_chart.specs.declared.scale.Scale.{Scale}
use Rattle.rtk_chart.specs.declared.code_marks.CodeMarks.{CodeMarks}
use Rattle.rtk_chart.specs.declared.tracking.Tracking.{Tracking}
use Rattle.rtk_chart.specs.declared.time_bin.TimeBin.{TimeBin}

-- ---- what no epoch calls for

abbrev pub no_marks : CodeMarks
no_marks = record { phase = false; missing = false; slip = false; returned = false; rise = false; half = false; least = None }

abbrev pub no_tracking : Tracking
no_tracking = record { codes = replicate 16 no_marks; seen = false }

abbrev pub no_bin : TimeBin
no_bin = record { satellites = replicate 32 no_tracking }

-- ---- the marks of a bin

-- some epoch of the bin passes a test of what it shows of a satellite, after what came before it
abbrev pub some_epoch : (List Sighting → Sighting → Bool) → Scale → ℕ → List EpochTableView → ℕ → Bool
some_epoch test s satellite [] c = false
some_epoch test s satellite (e ∷ before) c =
    ((bin_at s e.time == c) && test (sightings_of satellite before) (sighting_of satellite e)) || some_epoch test s satellite before c

-- the least strength digit of a code of a satellite in the epochs of the bin
abbrev pub least_in : Scale → ℕ → ℕ → List EpochTableView → ℕ → Option ℕ
least_in s satellite code [] c = None
least_in s satellite code (e ∷ before) c =
    if bin_at s e.time == c then lesser (level_at code (observed_in satellite e.rows)) (least_in s satellite code before c)
    else least_in s satellite code before c

-- formula
-- the marks of a code of a satellite: its phase stands, or is missing where another phase of the satellite
-- stands; it slips, returns, rises, or has a half cycle; and its least strength digit
abbrev pub code_in : Scale → ℕ → List EpochTableView → ℕ → ℕ → CodeMarks
code_in s satellite es c code =
    record {
      phase = some_epoch (λ before now. shows_phase code now.observed) s satellite es c;
      missing = some_epoch (λ before now. lacks_phase code now.observed) s satellite es c;
      slip = some_epoch (is_slip s.interval code) s satellite es c;
      returned = some_epoch (is_return s.interval code) s satellite es c;
      rise = some_epoch (is_rise s.interval code) s satellite es c;
      half = some_epoch (λ before now. has_bit_1 code now.observed) s satellite es c;
      least = least_in s satellite code es c;
    }

-- the codes by their places, 16 at most
unfoldable pub codes_in : Scale → ℕ → List EpochTableView → ℕ → List CodeMarks
codes_in s satellite es c = map (code_in s satellite es c) (range_with_len 0 16)

-- formula
-- a satellite: its codes, and whether it has a row
abbrev pub tracking_in : Scale → ℕ → List EpochTableView → ℕ → Tracking
tracking_in s satellite es c =
    record { codes = codes_in s satellite es c; seen = some_epoch (λ before now. is_seen now.observed) s satellite es c }

-- the satellites 1 to 32
unfoldable pub trackings_in : Scale → List EpochTableView → ℕ → List Tracking
trackings_in s es c = map (λ place. tracking_in s (place + 1) es c) (range_with_len 0 32)

abbrev pub bin_in : Scale → List EpochTableView → ℕ → TimeBin
bin_in s es c = record { satellites = trackings_in s es c }

-- what all bins have
unfoldable pub bins_of : Scale → List EpochTableView → List TimeBin
bins_of s es = map (bin_in s es) (range_with_len 0 s.bins)

-- the tracking of the satellite at a place of a bin
abbrev pub tracking_at : ℕ → TimeBin → Tracking
tracking_at place bin = get_or bin.satellites place no_tracking

-- the marks of the code at a place of a tracking
abbrev pub marks_at : ℕ → Tracking → CodeMarks
marks_at code tracking = get_or tracking.codes code no_marks

-- ---- missing epochs

-- an epoch that is missing before the one at t lies in the bin: from the first such epoch to the
-- last one each bin has one, since it is one interval long or longer
abbrev pub has_missing_before : Scale → Option ℕ → ℕ → ℕ → Bool
has_missing_before s None t c = false
has_missing_before s (Some before) t c =
    nat_lt 0 (missing_before s.unit (Some before) t)
    && nat_le (bin_at s (before + s.unit)) c
    && nat_le c (bin_at s (before + missing_before s.unit (Some before) t * s.unit))

-- formula
-- an epoch that is missing lies in the bin
abbrev pub has_missing : Scale → List EpochTableView → ℕ → Bool
has_missing s [] c = false
has_missing s (e ∷ before) c = has_missing_before s (newest_moment before) e.time c || has_missing s before c

-- which bins have a missing epoch
unfoldable pub gaps_of : Scale → List EpochTableView → List Bool
gaps_of s es = map (has_missing s es) (range_with_len 0 s.bins)

-- formula
-- an epoch lies in the bin
abbrev pub has_record : Scale → List EpochTableView → ℕ → Bool
has_record s [] c = false
has_record s (e ∷ before) c = (bin_at s e.time == c) || has_record s before c

-- which bins have an epoch
unfoldable pub recorded_of : Scale → List EpochTableView → List Bool
recorded_of s es = map (has_record s es) (range_with_len 0 s.bins)

-- ---- outages

-- an outage of a satellite, so many ms long, that ends with the epoch at t lies in the bin: from its first epoch
-- without a phase to the last one
abbrev pub is_out_before : Scale → Option ℕ → ℕ → ℕ → Bool
is_out_before s None t c = false
is_out_before s (Some ms) t c = nat_le (bin_at s (t - ms)) c && nat_le c (bin_at s (t - s.unit))

-- formula
-- an outage of the satellite lies in the bin
abbrev pub has_outage : Scale → ℕ → List EpochTableView → ℕ → Bool
has_outage s satellite [] c = false
has_outage s satellite (e ∷ before) c =
    is_out_before s (outage_before s.interval (sightings_of satellite before) (sighting_of satellite e)) e.time c
    || has_outage s satellite before c

-- the place of a satellite in a bin, in a list of all satellites of all bins
abbrev pub slot_of : ℕ → ℕ → ℕ
slot_of c place = 32 * c + place

-- which satellites have an outage in which bins: those of a bin stand side by side
unfoldable pub outages_of : Scale → List EpochTableView → List Bool
outages_of s es = map (λ slot. has_outage s (slot % 32 + 1) es (slot / 32)) (range_with_len 0 (32 * s.bins))

-- the satellite at a place has an outage in a bin
abbrev pub is_out : List Bool → ℕ → ℕ → Bool
is_out outages place c = get_or outages (slot_of c place) false
