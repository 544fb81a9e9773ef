-- The hours in which a satellite slips at several epochs (this project's rule). What came is listed newest first, and
-- the hours oldest first.
use Rattle.std.specs.Prelude.{ℕ, ◌==◌, nat_lt, List, [], ◌∷◌, ◌++◌, flat_map, Option, None, Some, if◌then◌else◌}
use Rattle.std.specs.List.{range_with_len}
use Rattle.rtk_rinex.specs.Record.{EpochTableView}
use Rattle.rtk_rinex.specs.declared.epoch_table.SatelliteRow.{SatelliteRow}
use Rattle.rtk_tracking.specs.Passes.{Sighting, sightings_of}
use Rattle.rtk_quality.specs.Counts.{plus}
use Rattle.rtk_quality.specs.Hours.{hour_at, slips_of}
use Rattle.rtk_quality.specs.Largest.{list_of, ten_largest, count_of}
use Rattle.rtk_quality.specs.declared.bursts.HourMoments.{HourMoments}
use Rattle.rtk_quality.specs.declared.bursts.Burst.{Burst}

-- an hour with one more epoch at which the satellite slips: the last such hour, or one that begins
abbrev pub hour_with : ℕ → Option HourMoments → HourMoments
hour_with hour None = record { hour = hour; moments = 1 }
hour_with hour (Some h) = if h.hour == hour then record { hour = hour; moments = plus h.moments 1 } else record { hour = hour; moments = 1 }

-- the last hour, unless it is this one
abbrev pub other_hour : ℕ → Option HourMoments → Option HourMoments
other_hour hour None = None
other_hour hour (Some h) = if h.hour == hour then None else Some h

-- the last hour after an epoch with so many slips
abbrev pub hour_after : Option HourMoments → ℕ → ℕ → Option HourMoments
hour_after last slips hour = if nat_lt 0 slips then Some (hour_with hour last) else last

-- the hour that ends before it
abbrev pub hour_ended : Option HourMoments → ℕ → ℕ → Option HourMoments
hour_ended last slips hour = if nat_lt 0 slips then other_hour hour last else None

-- formula
-- the last hour in which the satellite slips, and at how many epochs of it
abbrev pub last_hour : Option ℕ → List Sighting → Option HourMoments
last_hour interval [] = None
last_hour interval (s ∷ before) = hour_after (last_hour interval before) (slips_of interval before s) (hour_at interval s.time)

-- the hour before it, if the satellite slips at an epoch of another hour
abbrev pub hour_before : Option ℕ → List Sighting → Sighting → Option HourMoments
hour_before interval before s = hour_ended (last_hour interval before) (slips_of interval before s) (hour_at interval s.time)

-- formula
-- an hour in which a satellite slips at two epochs at least
abbrev pub burst_of : ℕ → Option HourMoments → Option Burst
burst_of satellite None = None
burst_of satellite (Some h) = if nat_lt h.moments 2 then None else Some (record { satellite = satellite; hour = h.hour; moments = h.moments })

-- those that rows of an epoch end
abbrev pub bursts_in : Option ℕ → List EpochTableView → ℕ → List SatelliteRow → List Burst
bursts_in interval before t rows =
    flat_map (λ r. list_of (burst_of r.satellite (hour_before interval (sightings_of r.satellite before) (record { time = t; observed = r.observed.items })))) rows

abbrev pub ended_bursts : Option ℕ → List EpochTableView → List Burst
ended_bursts interval [] = []
ended_bursts interval (e ∷ before) = ended_bursts interval before ++ bursts_in interval before e.time e.rows

-- those that no later slip ends
unfoldable pub last_bursts : ℕ → Option ℕ → List EpochTableView → List Burst
last_bursts most interval es = flat_map (λ satellite. list_of (burst_of satellite (last_hour interval (sightings_of satellite es)))) (range_with_len 1 most)

-- formula
-- all of them, by the slips that follow them in another hour, and then by satellite
abbrev pub all_bursts : ℕ → Option ℕ → List EpochTableView → List Burst
all_bursts most interval es = ended_bursts interval es ++ last_bursts most interval es

-- the size of a burst is the number of its epochs
abbrev pub size_of_burst : Burst → ℕ
size_of_burst b = b.moments

-- formula
-- how many there are
abbrev pub all_bursts_in : ℕ → Option ℕ → List EpochTableView → ℕ
all_bursts_in most interval es = count_of (all_bursts most interval es)

-- formula
-- the ten with most epochs, the one with the most first, and of two alike the earlier one
abbrev pub largest_bursts : ℕ → Option ℕ → List EpochTableView → List Burst
largest_bursts most interval es = ten_largest size_of_burst (all_bursts most interval es)
