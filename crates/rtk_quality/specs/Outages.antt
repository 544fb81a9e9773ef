-- The outages of satellites (this project's rule). What came is listed newest first, and the outages oldest first.
use Rattle.std.specs.Prelude.{ℕ, List, [], ◌∷◌, ◌++◌, flat_map, Option, None, Some}
use Rattle.rtk_obs.specs.Reading.{reading_of}
use Rattle.rtk_rinex.specs.Record.{EpochTableView}
use Rattle.rtk_rinex.specs.declared.epoch_table.SatelliteRow.{SatelliteRow}
use Rattle.rtk_tracking.specs.Passes.{Sighting, sightings_of, last_phase, outage_before}
use Rattle.rtk_quality.specs.Largest.{list_of, ten_largest}
use Rattle.rtk_quality.specs.declared.outages.Absence.{Absence}
use Rattle.rtk_quality.specs.declared.outages.Outage.{Outage}

-- formula
-- an absence of so many ms, from the last phase before it until the first one after it
abbrev pub absence_between : Option ℕ → ℕ → Option ℕ → Option Absence
absence_between None t ms = None
absence_between (Some last) t None = None
absence_between (Some last) t (Some ms) = Some (record { from = reading_of last; until = reading_of t; ms = ms })

-- the absence before an epoch with which an outage ends
abbrev pub absence_at : Option ℕ → List Sighting → Sighting → Option Absence
absence_at interval before s = absence_between (last_phase before) s.time (outage_before interval before s)

abbrev pub outage_of : ℕ → Option Absence → Option Outage
outage_of satellite None = None
outage_of satellite (Some absence) = Some (record { satellite = satellite; absence = absence })

-- the outages that end with rows of an epoch
abbrev pub outages_in : Option ℕ → List EpochTableView → ℕ → List SatelliteRow → List Outage
outages_in interval before t rows =
    flat_map (λ r. list_of (outage_of r.satellite (absence_at interval (sightings_of r.satellite before) (record { time = t; observed = r.observed.items })))) rows

-- formula
-- all outages, by the moments at which they end, and then by satellite
abbrev pub all_outages : Option ℕ → List EpochTableView → List Outage
all_outages interval [] = []
all_outages interval (e ∷ before) = all_outages interval before ++ outages_in interval before e.time e.rows

-- the size of an outage is its time
abbrev pub size_of_outage : Outage → ℕ
size_of_outage o = o.absence.ms

-- formula
-- the ten longest outages, the longest first, and of two alike the earlier one
abbrev pub longest_outages : Option ℕ → List EpochTableView → List Outage
longest_outages interval es = ten_largest size_of_outage (all_outages interval es)
