-- Which satellites are drawn (this project's rule).
use Rattle.std.specs.Prelude.{ℕ, ◌-◌, Bool, true, false, List, get_or}
use Rattle.std.specs.List.{filter, list_any}
use Rattle.rtk_rinex.specs.Record.{EpochTableView}
use Rattle.rtk_chart.specs.declared.choice.Chosen.{Chosen}
use Rattle.rtk_chart.specs.declared.choice.Choice.{Choice}
use Rattle.rtk_chart.specs.declared.choice.Choice.TheVariants.{All, These}

-- the satellite of this index is chosen; the index of a satellite of GPS is its number
abbrev pub is_chosen : Chosen → ℕ → Bool
is_chosen chosen satellite = get_or chosen.places (satellite - 1) false

-- an epoch with the rows of chosen satellites alone
abbrev pub chosen_rows : Chosen → EpochTableView → EpochTableView
chosen_rows chosen e = record { time = e.time; rows = filter (λ r. is_chosen chosen r.satellite) e.rows }

-- formula
-- an epoch, narrowed to a choice: it keeps its time, and the rows of the satellites that are chosen
abbrev pub narrowed : Choice → EpochTableView → EpochTableView
narrowed All e = e
narrowed (These chosen) e = chosen_rows chosen e

-- an epoch has a row of a chosen satellite
abbrev pub has_row : Chosen → EpochTableView → Bool
has_row chosen e = list_any (λ r. is_chosen chosen r.satellite) e.rows

-- formula
-- there is something to draw: some epoch has a row of a satellite that is chosen. All that a file has is drawn even
-- if it has nothing
abbrev pub is_there : Choice → List EpochTableView → Bool
is_there All es = true
is_there (These chosen) es = list_any (has_row chosen) es
