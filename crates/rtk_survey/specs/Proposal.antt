-- Which MSM the command of a station names, by its epochs with a value (this project's rule). Lists of
-- messages and times are newest first.
use Rattle.std.specs.Prelude.{ℕ, ◌+◌, ◌==◌, Bool, ◌&&◌, List, [], ◌∷◌, filter, nat_lt, Option, None, Some, if◌then◌else◌}
use Rattle.std.specs.List.{list_any}
use Rattle.rtk_message.specs.declared.any_message.AnyMessage.{AnyMessage}
use Rattle.rtk_message.specs.declared.msm_kind.MsmKind.{MsmKind}
use Rattle.rtk_message.specs.declared.msm_kind.MsmKind.TheVariants.{Msm4, Msm5, Msm6, Msm7}
use Rattle.rtk_message.specs.Accepted.{four, only, accepts}
use Rattle.rtk_message.specs.AnyDecoded.{number_of}
use Rattle.rtk_message.specs.Systems.{number_of_kind}
use Rattle.rtk_obs.specs.declared.cell.CellEntry.{CellEntry}
use Rattle.rtk_survey.specs.Counting.{shown_count}
use Rattle.rtk_survey.specs.Tracing.{is_numbered, times_of_week, newest_time, entries_of_message, entries_in, has_value}

-- ---- epochs

-- formula
-- 1 if an epoch begins with this time of week: it differs from the one before it, or none is before it
abbrev pub begins_epoch : Option ℕ → ℕ → ℕ
begins_epoch None t = 1
begins_epoch (Some before) t = if before == t then 0 else 1

-- formula
-- how many epochs there are of these times of week
abbrev pub epochs_in : List ℕ → ℕ
epochs_in [] = 0
epochs_in (t ∷ before) = epochs_in before + begins_epoch (newest_time before) t

abbrev pub entry_has_value : CellEntry → Bool
entry_has_value e = has_value e.cell

-- formula
-- a message of this MSM that has a cell with a range, a phase or a strength
abbrev pub gives_value : MsmKind → AnyMessage → Bool
gives_value kind m = is_numbered (number_of_kind kind) m && list_any entry_has_value (entries_of_message m)

-- the times of week of such messages (DF004)
abbrev pub times_with_value : MsmKind → List AnyMessage → List ℕ
times_with_value kind ms = times_of_week (filter (gives_value kind) ms)

-- how many epochs of this MSM have a value: runs of such messages with one time of week
abbrev pub epochs_with_value : MsmKind → List AnyMessage → ℕ
epochs_with_value kind ms = shown_count (epochs_in (times_with_value kind ms))

-- ---- what `convert` takes

-- a message that `convert` takes with this MSM
abbrev pub is_taken_with : MsmKind → AnyMessage → Bool
is_taken_with kind m = accepts (only kind) (number_of m)

-- a message that `convert` takes without an option: a 1004 to 1006 or a 1074
abbrev pub is_of_four : AnyMessage → Bool
is_of_four m = accepts four (number_of m)

-- the cells that `convert` takes with this MSM
abbrev pub entries_with : MsmKind → List AnyMessage → List CellEntry
entries_with kind ms = entries_in (filter (is_taken_with kind) ms)

-- ---- the MSM that is named, by how many epochs of each have a value

-- formula
-- the greater of two MSM, if it has epochs with a value, and no fewer than the lesser one
abbrev pub better_of : (MsmKind → ℕ) → MsmKind → MsmKind → MsmKind
better_of epochs lesser greater =
    if epochs greater == 0 then lesser else if nat_lt (epochs greater) (epochs lesser) then lesser else greater

-- formula
-- the MSM with most epochs with a value, of two alike the greater; MSM4 if there is no such epoch
abbrev pub proposed : (MsmKind → ℕ) → MsmKind
proposed epochs = better_of epochs (better_of epochs (better_of epochs Msm4 Msm5) Msm6) Msm7
