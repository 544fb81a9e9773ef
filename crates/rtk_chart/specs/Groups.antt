-- The satellites of any systems in groups of 32 at most, which is as many as a grid has places; and what a group has in an epoch
-- (this project's rule).
use Rattle.std.specs.Prelude.{◌≡◌, ℕ, ◌+◌, ◌-◌, ◌==◌, nat_lt, nat_le, Bool, true, ◌&&◌, List, [], ◌∷◌, map, min, filter_map, Option, None, Some, if◌then◌else◌}
use Rattle.rtk_message.specs.declared.system.System.{System}
use Rattle.rtk_message.specs.declared.system.System.TheVariants.{Gps, Glonass, Galileo, Beidou, Qzss, Sbas, Navic}
use Rattle.rtk_obs.specs.declared.any_code.AnyCode.{AnyCode}
use Rattle.rtk_obs.specs.AnyCode.{system_of, name_of, text_of}
use Rattle.rtk_obs.specs.SatelliteIndex.{satellites_of_system, satellites_before, letter_of, name_offset}
use Rattle.rtk_rinex.specs.MixedTable.{MixedTable, IsMixedTable, mixed_table_text}
use Rattle.rtk_rinex.specs.Record.{EpochTableView}
use Rattle.rtk_rinex.specs.declared.epoch_table.SatelliteRow.{SatelliteRow}
use Rattle.rtk_tracking.specs.Epochs.{newest_first}
use Rattle.rtk_chart.specs.Choice.{is_chosen}
use Rattle.rtk_chart.specs.declared.choice.Choice.{Choice}
use Rattle.rtk_chart.specs.declared.choice.Choice.TheVariants.{All, These}
use Rattle.rtk_chart.specs.declared.groups.Group.{Group}

-- formula
-- the name of a code: two characters are one of GPS, and three begin with the letter of the system
abbrev pub title_of : AnyCode → List ℕ
title_of code = if letter_of (system_of code) == 71 then name_of code else text_of code

-- table
-- the systems, in the order of a file
abbrev pub drawn_in_order : List System
drawn_in_order = Gps ∷ Glonass ∷ Galileo ∷ Beidou ∷ Qzss ∷ Sbas ∷ Navic ∷ []

-- ---- the groups of a system

-- the satellites of a system, as one group that may be larger than a grid; their numbers in names follow on each other
abbrev pub whole_group : System → Group
whole_group s = record {
  before = satellites_before s;
  count = satellites_of_system s;
  names = record { letter = letter_of s; before = name_offset s };
}

-- formula
-- the satellites of a system, or the first 32 of them
abbrev pub first_group : System → Group
first_group s = record {
  before = satellites_before s;
  count = min 32 (satellites_of_system s);
  names = record { letter = letter_of s; before = name_offset s };
}

-- formula
-- those behind the first 32; most systems have none
abbrev pub second_group : System → Group
second_group s = record {
  before = satellites_before s + 32;
  count = satellites_of_system s - 32;
  names = record { letter = letter_of s; before = name_offset s + 32 };
}

-- the satellite of this index is of the group
abbrev pub is_in_group : Group → ℕ → Bool
is_in_group g i = nat_lt g.before i && nat_le (i - g.before) g.count

-- the satellite of this index is chosen
abbrev pub is_chosen_by : Choice → ℕ → Bool
is_chosen_by All i = true
is_chosen_by (These chosen) i = is_chosen chosen i

-- formula
-- the place of a satellite in a group, from 1, if it is of the group and chosen
abbrev pub group_place : Choice → Group → ℕ → Option ℕ
group_place choice g i = if is_in_group g i && is_chosen_by choice i then Some (i - g.before) else None

-- ---- what a group has in an epoch

-- a row at another place, if there is one
abbrev pub row_at : SatelliteRow → Option ℕ → Option SatelliteRow
row_at r None = None
row_at r (Some place) = Some (record { satellite = place; observed = r.observed })

-- the row of a satellite at its place in the group
abbrev pub group_row : Choice → Group → SatelliteRow → Option SatelliteRow
group_row choice g r = row_at r (group_place choice g r.satellite)

-- formula
-- an epoch with the rows of the group that are chosen, each at its place; it may have none of them
abbrev pub group_epoch : Choice → Group → EpochTableView → EpochTableView
group_epoch choice g e = record { time = e.time; rows = filter_map (group_row choice g) e.rows }

abbrev pub group_epochs : Choice → Group → List EpochTableView → List EpochTableView
group_epochs choice g es = map (group_epoch choice g) es

-- ---- a file of any systems

-- this holds of the epochs, newest first, of each table whose text the file is; by one_mixed_table there is one
abbrev pub HoldsOfMixed : List ℕ → (List EpochTableView → Type 0) → Type 0
HoldsOfMixed file Holds = (t : MixedTable) → IsMixedTable t → file ≡ mixed_table_text t → Holds (newest_first t.epochs)
