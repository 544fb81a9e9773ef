-- Laws of marks and counts: each mark has its epochs, and each epoch its mark, however many there are.
use Rattle.std.specs.Prelude.{◌≡◌, ◌≤◌, ◌<◌, ◌↔◌, ℕ, ◌+◌, ◌-◌, nat_le, Bool, true, false, List, ◌∷◌, ◌++◌, count_by, get_or, All, Option, None, Some}
use Rattle.std.specs.List.{list_any, sum_by}
use Rattle.rtk_rinex.specs.Record.{EpochTableView}
use Rattle.rtk_rinex.specs.Table.{IsTableEpoch}
use Rattle.rtk_tracking.specs.Epochs.{newest_moment, observed_in, shows_phase}
use Rattle.rtk_tracking.specs.Passes.{Sighting, sightings_of, is_rise, is_return, is_slip, outage_before}
use Rattle.rtk_tracking.specs.Interval.{steps_in, nearest_intervals, missing_in}
use Rattle.rtk_chart.specs.Epochs.{sighting_of, is_seen, lacks_phase, has_bit_1, level_at, slips_in, returns_in, rises_in}
use Rattle.rtk_chart.specs.Scale.{bin_at}
use Rattle.rtk_chart.specs.Grid.{no_bin, tracking_at, marks_at, bins_of, has_missing_before, gaps_of, is_out_before, outages_of, is_out}
use Rattle.rtk_chart.specs.Signs.{has_code}
use Rattle.rtk_chart.specs.declared.scale.Scale.{Scale}
use Rattle.rtk_chart.specs.declared.code_marks.CodeMarks.{CodeMarks}

-- one of these epochs lies in the bin, and passes a test of what it shows of a satellite after what came
-- before it
abbrev pub IsCalledFor : Scale → List EpochTableView → ℕ → ℕ → (List Sighting → Sighting → Bool) → Type 0
IsCalledFor s es c satellite test =
    (newer : List EpochTableView) × (e : EpochTableView) × (before : List EpochTableView)
    × (es ≡ newer ++ e ∷ before) × (bin_at s e.time ≡ c) × (test (sightings_of satellite before) (sighting_of satellite e) ≡ true)

-- a mark is there exactly then
abbrev pub IsMarkOf : Scale → List EpochTableView → ℕ → ℕ → Bool → (List Sighting → Sighting → Bool) → Type 0
IsMarkOf s es c satellite mark test = (mark ≡ true) ↔ IsCalledFor s es c satellite test

-- the digit is this one or a lesser one
abbrev pub is_at_most : ℕ → Option ℕ → Bool
is_at_most level None = false
is_at_most level (Some digit) = nat_le digit level

-- the marks of a code of a satellite are those that the epochs in a bin call for: a phase, a missing phase,
-- a slip, a return, a rise, a half cycle, and each least strength digit
pub record ShowsEpochs (s : Scale) (es : List EpochTableView) (c satellite code : ℕ) (marks : CodeMarks) : Type 0 where
  pub phase : IsMarkOf s es c satellite marks.phase (λ before now. shows_phase code now.observed)
  pub missing : IsMarkOf s es c satellite marks.missing (λ before now. lacks_phase code now.observed)
  pub slip : IsMarkOf s es c satellite marks.slip (is_slip s.interval code)
  pub returned : IsMarkOf s es c satellite marks.returned (is_return s.interval code)
  pub rise : IsMarkOf s es c satellite marks.rise (is_rise s.interval code)
  pub half : IsMarkOf s es c satellite marks.half (λ before now. has_bit_1 code now.observed)
  pub least : (level : ℕ) → IsMarkOf s es c satellite (is_at_most level marks.least) (λ before now. is_at_most level (level_at code now.observed))

-- this holds of each code of each satellite in each bin
abbrev pub CodesShowEpochs : Type 0
CodesShowEpochs =
    (s : Scale) (es : List EpochTableView) (c place code : ℕ) → c < s.bins → place < 32 → code < 16
    → ShowsEpochs s es c (place + 1) code (marks_at code (tracking_at place (get_or (bins_of s es) c no_bin)))

-- a satellite is seen in a bin exactly if it has a row in one of its epochs
abbrev pub SatellitesShowEpochs : Type 0
SatellitesShowEpochs =
    (s : Scale) (es : List EpochTableView) (c place : ℕ) → c < s.bins → place < 32
    → IsMarkOf s es c (place + 1) (tracking_at place (get_or (bins_of s es) c no_bin)).seen (λ before now. is_seen now.observed)

-- a satellite has a code in its bins exactly if it has its phase in some epoch of the file, if each epoch has
-- its bin
abbrev pub CodesAreOfEpochs : Type 0
CodesAreOfEpochs =
    (s : Scale) (es : List EpochTableView) (place code : ℕ) → place < 32 → code < 16 → All (λ e. bin_at s e.time < s.bins) es
    → has_code (bins_of s es) place code ≡ list_any (λ e. shows_phase code (observed_in (place + 1) e.rows)) es

-- an epoch is missing in the bin, before one of these records and after the record before it
abbrev pub IsMissingIn : Scale → List EpochTableView → ℕ → Type 0
IsMissingIn s es c =
    (newer : List EpochTableView) × (e : EpochTableView) × (before : List EpochTableView)
    × (es ≡ newer ++ e ∷ before) × (has_missing_before s (newest_moment before) e.time c ≡ true)

-- a bin has the mark of missing epochs exactly then
abbrev pub GapsAreMissing : Type 0
GapsAreMissing =
    (s : Scale) (es : List EpochTableView) (c : ℕ) → c < s.bins → (get_or (gaps_of s es) c false ≡ true) ↔ IsMissingIn s es c

-- an outage of a satellite ends with one of these epochs, and lies in the bin
abbrev pub IsOutIn : Scale → List EpochTableView → ℕ → ℕ → Type 0
IsOutIn s es satellite c =
    (newer : List EpochTableView) × (e : EpochTableView) × (before : List EpochTableView)
    × (es ≡ newer ++ e ∷ before)
    × (is_out_before s (outage_before s.interval (sightings_of satellite before) (sighting_of satellite e)) e.time c ≡ true)

-- a satellite has an outage in a bin exactly then
abbrev pub OutagesAreOfEpochs : Type 0
OutagesAreOfEpochs =
    (s : Scale) (es : List EpochTableView) (place c : ℕ) → place < 32 → c < s.bins
    → (is_out (outages_of s es) place c ≡ true) ↔ IsOutIn s es (place + 1) c

-- ---- counts

-- the missing epochs of a file are those of its steps
abbrev pub MissingAreOfSteps : Type 0
MissingAreOfSteps = (unit : ℕ) (es : List EpochTableView) → missing_in unit es ≡ sum_by (λ step. nearest_intervals unit step - 1) (steps_in es)

-- each bit 0 is a slip, a return or a rise: together they are as many as the digits with bit 0, of each code of each
-- satellite in each epoch of a file of n codes
abbrev pub SlipsAndRisesAreDigits : Type 0
SlipsAndRisesAreDigits =
    (interval : Option ℕ) (n : ℕ) (es : List EpochTableView) → n ≤ 16 → All (IsTableEpoch n) es
    → slips_in interval es + returns_in interval es + rises_in interval es ≡ sum_by (λ e. sum_by (λ r. count_by (λ o. o.slip) r.observed.items) e.rows) es
