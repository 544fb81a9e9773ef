-- The counts of a code (this project's rule). What came of the code is listed newest first.
use Rattle.std.specs.Prelude.{ℕ, ◌+◌, ◌*◌, ◌/◌, ◌==◌, Bool, not, ◌&&◌, ◌||◌, List, [], ◌∷◌, map, Option, None, Some, is_some, unwrap_or, if◌then◌else◌}
use Rattle.std.specs.List.{list_any, range_with_len}
use Rattle.rtk_rinex.specs.declared.epoch_table.Observed.{Observed}
use Rattle.rtk_tracking.specs.Epochs.{capped, shown_at}
use Rattle.rtk_tracking.specs.Extremes.{lesser, greater}
use Rattle.rtk_tracking.specs.Passes.{Sighting, is_known, is_kept}
use Rattle.rtk_quality.specs.declared.code_counts.CodeCounts.{CodeCounts}
use Rattle.rtk_quality.specs.declared.code_numbers.PerSlip.{PerSlip}
use Rattle.rtk_quality.specs.declared.code_numbers.PerSlip.TheVariants.{NoPhase, NoneLost, Each}

-- what a code shows in an epoch, and whether it had a phase earlier in the pass, and since the last outage
-- in it
pub record Noted : Type 0 where
  pub observed : Observed
  pub known : Bool
  pub kept : Bool

-- what came of a code of a satellite
abbrev pub noted_of : Option ℕ → ℕ → List Sighting → List Noted
noted_of interval place [] = []
noted_of interval place (s ∷ before) =
    record { observed = shown_at place s.observed; known = is_known interval place before s; kept = is_kept interval place before s } ∷ noted_of interval place before

-- the code has a range, a phase, a Doppler shift or a strength
abbrev pub is_observed : Observed → Bool
is_observed o = is_some o.range_mm || (is_some o.phase_millicycles || (is_some o.doppler_millihertz || is_some o.strength_millidbhz))

abbrev pub least_strength : List Noted → Option ℕ
least_strength [] = None
least_strength (n ∷ before) = lesser n.observed.strength_millidbhz (least_strength before)

abbrev pub greatest_strength : List Noted → Option ℕ
greatest_strength [] = None
greatest_strength (n ∷ before) = greater n.observed.strength_millidbhz (greatest_strength before)

-- a sum as it is shown
abbrev pub plus : ℕ → ℕ → ℕ
plus a b = capped (a + b)

-- how often a test holds
abbrev pub tally : (Noted → Bool) → List Noted → ℕ
tally test [] = 0
tally test (n ∷ before) = plus (tally test before) (if test n then 1 else 0)

-- the sum of the strengths
abbrev pub strength_total : List Noted → ℕ
strength_total [] = 0
strength_total (n ∷ before) = plus (strength_total before) (unwrap_or n.observed.strength_millidbhz 0)

-- formula
-- the counts of what came of a code: its phases; its ranges without a phase; bit 0 of its digits, at the
-- first phase in a pass (rises), at the first one after an outage (returns) and elsewhere (slips); bit 1 (half
-- cycles); its Doppler shifts; its strengths
abbrev pub counts_of : List Noted → CodeCounts
counts_of ns =
    record {
      seen = list_any (λ n. is_observed n.observed) ns;
      phases = tally (λ n. is_some n.observed.phase_millicycles) ns;
      ranges = tally (λ n. is_some n.observed.range_mm && not (is_some n.observed.phase_millicycles)) ns;
      slips = tally (λ n. n.observed.slip && n.kept) ns;
      returns = tally (λ n. n.observed.slip && (n.known && not n.kept)) ns;
      rises = tally (λ n. n.observed.slip && not n.known) ns;
      halves = tally (λ n. n.observed.half) ns;
      shifts = tally (λ n. is_some n.observed.doppler_millihertz) ns;
      strengths = tally (λ n. is_some n.observed.strength_millidbhz) ns;
      strength_sum = strength_total ns;
      least = least_strength ns;
      greatest = greatest_strength ns;
    }

-- formula
-- the counts of 16 codes of a satellite, by their places
unfoldable pub code_counts_of : Option ℕ → List Sighting → List CodeCounts
code_counts_of interval before = map (λ place. counts_of (noted_of interval place before)) (range_with_len 0 16)

-- ---- fractions; if they are rounded, of two alike the greater one

-- formula
-- a fraction in whole numbers
abbrev pub rounded_fraction : ℕ → ℕ → ℕ
rounded_fraction n d = (2 * n + d) / (2 * d)

-- formula
-- how many of those that could be there are there, in tenths of a percent, rounded down: 100.0 means all
abbrev pub percent_tenths : ℕ → ℕ → ℕ
percent_tenths n possible = if possible == 0 then 0 else capped (1000 * n / possible)

-- formula
-- how many phases there are for each slip, if there is a phase and a slip
abbrev pub phases_per_slip : ℕ → ℕ → PerSlip
phases_per_slip phases slips =
    if phases == 0 then NoPhase else (if slips == 0 then NoneLost else Each (capped (rounded_fraction phases slips)))

-- formula
-- the mean of strengths in hundredths of a dB-Hz; their sum is in thousandths
abbrev pub mean_hundredths : ℕ → ℕ → Option ℕ
mean_hundredths sum count = if count == 0 then None else Some (capped (rounded_fraction sum (10 * count)))

-- formula
-- how many satellites an epoch has in the mean, in tenths
abbrev pub mean_tenths : ℕ → ℕ → Option ℕ
mean_tenths rows records = if records == 0 then None else Some (capped (rounded_fraction (10 * rows) records))
