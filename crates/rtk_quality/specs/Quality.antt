-- The numbers of satellites and of codes (this project's rule). What came is listed newest first.
use Rattle.std.specs.Prelude.{ℕ, Bool, true, List, [], count_by, if◌then◌else◌, Option}
use Rattle.std.specs.List.{list_any, fold, range_with_len}
use Rattle.rtk_rinex.specs.Record.{EpochTableView}
use Rattle.rtk_tracking.specs.Extremes.{lesser, greater}
use Rattle.rtk_tracking.specs.Passes.{Sighting, sightings_of}
use Rattle.rtk_quality.specs.Counts.{plus, noted_of, counts_of}
use Rattle.rtk_quality.specs.SatellitePasses.{no_sums, sums_plus, sums_in, epochs_in_passes}
use Rattle.rtk_quality.specs.declared.code_counts.CodeCounts.{CodeCounts}
use Rattle.rtk_quality.specs.declared.pass_sums.PassSums.{PassSums}
use Rattle.rtk_quality.specs.declared.code_numbers.CodeNumbers.{CodeNumbers}

-- formula
-- the numbers of the code of a satellite at a place: its counts, how many phases could be there, and of how
-- many satellites these are
abbrev pub numbers_of : Option ℕ → List Sighting → ℕ → CodeNumbers
numbers_of interval before place = record { counts = counts_of (noted_of interval place before); possible = epochs_in_passes interval before; satellites = 1 }

-- the satellite has a code somewhere in the file
unfoldable pub is_in_file : Option ℕ → List Sighting → Bool
is_in_file interval before = list_any (λ place. (counts_of (noted_of interval place before)).seen) (range_with_len 0 16)

-- formula
-- how many satellites the file has
unfoldable pub satellites_in : ℕ → Option ℕ → List EpochTableView → ℕ
satellites_in most interval es = count_by (λ satellite. is_in_file interval (sightings_of satellite es)) (range_with_len 1 most)

-- two counts together
abbrev pub together : CodeCounts → CodeCounts → CodeCounts
together a b =
    record {
      seen = true;
      phases = plus a.phases b.phases;
      ranges = plus a.ranges b.ranges;
      slips = plus a.slips b.slips;
      returns = plus a.returns b.returns;
      rises = plus a.rises b.rises;
      halves = plus a.halves b.halves;
      shifts = plus a.shifts b.shifts;
      strengths = plus a.strengths b.strengths;
      strength_sum = plus a.strength_sum b.strength_sum;
      least = lesser a.least b.least;
      greatest = greater a.greatest b.greatest;
    }

abbrev pub no_numbers : CodeNumbers
no_numbers = record { counts = counts_of []; possible = 0; satellites = 0 }

-- the numbers of a code with those of one more satellite, if it has the code
abbrev pub with_satellite : CodeNumbers → CodeNumbers → CodeNumbers
with_satellite total own =
    if own.counts.seen
    then record { counts = together total.counts own.counts; possible = plus total.possible own.possible; satellites = plus total.satellites own.satellites }
    else total

-- formula
-- the numbers of the code at a place over all satellites that have it
unfoldable pub totals_of : ℕ → Option ℕ → List EpochTableView → ℕ → CodeNumbers
totals_of most interval es place =
    fold (λ total satellite. with_satellite total (numbers_of interval (sightings_of satellite es) place)) no_numbers (range_with_len 1 most)

-- formula
-- the sums of all satellites
unfoldable pub station_sums : ℕ → Option ℕ → List EpochTableView → PassSums
station_sums most interval es = fold (λ sums satellite. sums_plus sums (sums_in interval (sightings_of satellite es))) no_sums (range_with_len 1 most)

-- how many phases could be there of a code that each satellite sends
unfoldable pub possible_in : ℕ → Option ℕ → List EpochTableView → ℕ
possible_in most interval es = fold (λ n satellite. plus n (epochs_in_passes interval (sightings_of satellite es))) 0 (range_with_len 1 most)

-- formula
-- the numbers of the code at a place for the station: over all satellites that have it; of a code that no
-- satellite has, each phase of each satellite could be there
abbrev pub station_numbers : ℕ → CodeNumbers → CodeNumbers
station_numbers possible totals =
    if totals.counts.seen then totals else record { counts = totals.counts; possible = possible; satellites = 0 }

-- formula
-- the numbers of the code at a place for the station
abbrev pub code_of_station : ℕ → Option ℕ → List EpochTableView → ℕ → CodeNumbers
code_of_station most interval es place = station_numbers (possible_in most interval es) (totals_of most interval es place)
