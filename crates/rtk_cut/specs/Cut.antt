-- A part of a file, of GPS or of any systems: the records on a step and in a span, and the slips that they
-- show. All of it is this project's rule.
use Rattle.std.specs.Prelude.{ℕ, ◌+◌, ◌*◌, ◌%◌, ◌==◌, nat_le, Bool, true, not, ◌&&◌, if◌then◌else◌, nat_lt, List, [], ◌∷◌, length, map, get_or, Option, None, Some, is_some, unwrap_or}
use Rattle.std.specs.Int.{IsInRange}
use Rattle.std.specs.List.{filter, list_any, take_while, range_with_len}
use Rattle.rtk_rinex.specs.declared.epoch_table.Observed.{Observed}
use Rattle.rtk_rinex.specs.declared.epoch_table.SatelliteRow.{SatelliteRow}
use Rattle.rtk_rinex.specs.Record.{EpochTableView, no_observation}
use Rattle.rtk_rinex.specs.Table.{WellFormedTable}
use Rattle.rtk_rinex.specs.MixedTable.{MixedTable}
use Rattle.rtk_tracking.specs.Interval.{interval_of_epochs, nearness_of}
use Rattle.rtk_cut.specs.declared.part.Part.{Part}
use Rattle.rtk_cut.specs.declared.part.Choice.{Choice}

-- ---- which records

-- constant
-- a step in s: 1 to 86,400
abbrev pub IsStepOrNone : Option ℕ → Type 0
IsStepOrNone None = Unit {0}
IsStepOrNone (Some every) = IsInRange 1 86_400 every

-- how far in ms a record of a file of these epochs may lie from a moment and still counts as being there
abbrev pub near_of : List EpochTableView → ℕ
near_of epochs = nearness_of (interval_of_epochs epochs)

-- which records of a file: a part, and how near is near enough
abbrev pub choice_of : Part → ℕ → Choice
choice_of part near = record { from = part.from; until = part.until; every = part.every; near_ms = near }

-- formula
-- the moment is near enough to a whole multiple of the step in s, counted from 1980-01-06; without a
-- step each moment is
abbrev pub is_near_step : ℕ → Option ℕ → ℕ → Bool
is_near_step near None t = true
is_near_step near (Some every) t = nat_le ((t + near) % (every * 1000)) (2 * near)

-- a step in s, if there is one, and how near is near enough
pub record Step : Type 0 where
  pub every : Option ℕ
  pub near : ℕ

-- the step of a choice
abbrev pub step_of : Choice → Step
step_of choice = record { every = choice.every; near = choice.near_ms }

-- the epoch is on the step
abbrev pub is_on_step : Step → EpochTableView → Bool
is_on_step step e = is_near_step step.near step.every e.time

-- the moment is at or after another one, if there is another one
abbrev pub is_at_or_after : Option ℕ → ℕ → Bool
is_at_or_after None t = true
is_at_or_after (Some from) t = not (nat_lt t from)

-- the moment is before another one, if there is another one
abbrev pub is_earlier_than : Option ℕ → ℕ → Bool
is_earlier_than None t = true
is_earlier_than (Some until) t = nat_lt t until

-- formula
-- the epoch is in the span: it counts as so much later as is near enough
abbrev pub is_in_span : ℕ → Option ℕ → Option ℕ → EpochTableView → Bool
is_in_span near from until e = is_at_or_after from (e.time + near) && is_earlier_than until (e.time + near)

-- the epoch is in the span of a choice
abbrev pub is_chosen : Choice → EpochTableView → Bool
is_chosen choice e = is_in_span choice.near_ms choice.from choice.until e

-- ---- which slips

-- what a satellite shows of the code at this place of the file's list
abbrev pub code_at : ℕ → SatelliteRow → Observed
code_at c r = get_or r.observed.items c no_observation

-- the epoch has a phase of this satellite and of the code at this place
abbrev pub has_phase_of : ℕ → ℕ → EpochTableView → Bool
has_phase_of s c e = list_any (λ r. (r.satellite == s) && is_some (code_at c r).phase_millicycles) e.rows

-- the epoch has a slip of this phase
abbrev pub has_slip_of : ℕ → ℕ → EpochTableView → Bool
has_slip_of s c e = list_any (λ r. (r.satellite == s) && (code_at c r).slip) e.rows

-- of earlier epochs, newest first, those after the last one on the step in which this phase stands
abbrev pub since_phase : Step → ℕ → ℕ → List EpochTableView → List EpochTableView
since_phase step s c earlier = take_while (λ e. not (is_on_step step e && has_phase_of s c e)) earlier

-- formula
-- this phase has slipped in the epoch, or in an earlier one since it stood in one on the step
abbrev pub has_slipped_since : Step → ℕ → ℕ → EpochTableView → List EpochTableView → Bool
has_slipped_since step s c e earlier = list_any (has_slip_of s c) (e ∷ since_phase step s c earlier)

-- ---- what is written

-- the observation with this slip, if it has a phase
abbrev pub with_slip : Bool → Observed → Observed
with_slip slip o = if is_some o.phase_millicycles then record o { slip = slip } else o

-- a satellite with these slips, by the place of the code
abbrev pub row_with_slips : (ℕ → Bool) → SatelliteRow → SatelliteRow
row_with_slips slips r = record { satellite = r.satellite; observed = record { items = map (λ c. with_slip (slips c) (code_at c r)) (range_with_len 0 (length r.observed.items)) } }

-- an epoch after these earlier ones, newest first, as the part shows it
abbrev pub cut_epoch : Step → List EpochTableView → EpochTableView → EpochTableView
cut_epoch step earlier e = record { time = e.time; rows = map (λ r. row_with_slips (λ c. has_slipped_since step r.satellite c e earlier) r) e.rows }

-- the epochs on the step, of epochs after these earlier ones
abbrev pub thinned_after : Step → List EpochTableView → List EpochTableView → List EpochTableView
thinned_after step earlier [] = []
thinned_after step earlier (e ∷ es) =
    if is_on_step step e then cut_epoch step earlier e ∷ thinned_after step (e ∷ earlier) es else thinned_after step (e ∷ earlier) es

-- those of them that are in the span
abbrev pub kept_after : Choice → List EpochTableView → List EpochTableView → List EpochTableView
kept_after choice earlier es = filter (is_chosen choice) (thinned_after (step_of choice) earlier es)

-- the epochs of the part of a file of these epochs
abbrev pub cut_of_epochs : Part → List EpochTableView → List EpochTableView
cut_of_epochs part epochs = kept_after (choice_of part (near_of epochs)) [] epochs

-- formula
-- the first time in the header: that of the first record, else the span's, else the file's
abbrev pub first_of_part : Option ℕ → ℕ → List EpochTableView → ℕ
first_of_part from first [] = unwrap_or from first
first_of_part from first (e ∷ es) = e.time

-- the file with these epochs of it
abbrev pub table_with : Option ℕ → WellFormedTable → List EpochTableView → WellFormedTable
table_with from t es = record { head = t.head; site = t.site; first = first_of_part from t.first es; epochs = es }

-- the part of a file
abbrev pub cut_of : Part → WellFormedTable → WellFormedTable
cut_of part t = table_with part.from t (cut_of_epochs part t.epochs)

-- the file of any systems with these epochs of it
abbrev pub mixed_table_with : Option ℕ → MixedTable → List EpochTableView → MixedTable
mixed_table_with from t es = record { head = t.head; site = t.site; first = first_of_part from t.first es; epochs = es }

-- the part of a file of any systems
abbrev pub mixed_cut_of : Part → MixedTable → MixedTable
mixed_cut_of part t = mixed_table_with part.from t (cut_of_epochs part t.epochs)
