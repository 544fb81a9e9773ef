-- Marks of the slips that are still to be shown, and how an epoch changes them.
use Rattle.std.specs.Prelude.{◌≡◌, ℕ, ◌+◌, ◌*◌, ◌<◌, ◌≤◌, ◌||◌, ◌&&◌, ◌==◌, Bool, true, false, List, [], ◌∷◌, length, map, get_or, is_some, All}
use Rattle.std.specs.List.{list_any, range_with_len}
use Rattle.rtk_rinex.specs.declared.epoch_table.Observed.{Observed}
use Rattle.rtk_rinex.specs.declared.epoch_table.SatelliteRow.{SatelliteRow}
use Rattle.rtk_rinex.specs.Record.{EpochTableView}
use Rattle.rtk_cut.specs.Cut.{Step, is_on_step, code_at, has_slip_of, since_phase, with_slip, cut_epoch}

-- the mark of a satellite and of the code at this place, 0 to 15
abbrev pub mark_of : List Bool → ℕ → ℕ → Bool
mark_of marks s c = get_or marks (16 * s + c) false

-- there are marks of a satellite, 16 of them
abbrev pub HasMarks : List Bool → ℕ → Type 0
HasMarks marks s = 16 * s + 16 ≤ length marks

-- and of each satellite of these rows
abbrev pub HaveMarks : List Bool → List SatelliteRow → Type 0
HaveMarks marks rows = All (λ r. HasMarks marks r.satellite) rows

-- marks have this value at each place
abbrev pub MarksAt : List Bool → List Bool → (ℕ → Bool) → Type 0
MarksAt old new value = (n : ℕ) → n < length old → get_or new n false ≡ value n

-- marks have another value at each satellite and code
abbrev pub MarksBecome : List Bool → (ℕ → ℕ → Bool) → Type 0
MarksBecome marks value = (s c : ℕ) → HasMarks marks s → c < 16 → mark_of marks s c ≡ value s c

-- a mark stands where an epoch since the last phase on the step has a slip
abbrev pub StandsForSlips : List Bool → Step → List EpochTableView → Type 0
StandsForSlips marks step earlier = MarksBecome marks (λ s c. list_any (has_slip_of s c) (since_phase step s c earlier))

-- no mark stands
abbrev pub StandsForNone : List Bool → Type 0
StandsForNone marks = (step : Step) → StandsForSlips marks step []

-- the slips of an epoch that is not on the step are marked too
abbrev pub NotesSlips : List Bool → List Bool → EpochTableView → Type 0
NotesSlips marks marks' e =
    (step : Step) (earlier : List EpochTableView) → is_on_step step e ≡ false → StandsForSlips marks step earlier
    → StandsForSlips marks' step (e ∷ earlier)

-- an epoch is shown as the part shows it
abbrev pub ShowsSlipsIn : List Bool → EpochTableView → EpochTableView → Type 0
ShowsSlipsIn marks e shown =
    (step : Step) (earlier : List EpochTableView) → StandsForSlips marks step earlier → shown ≡ cut_epoch step earlier e

-- the marks of its phases are gone
abbrev pub ClearsSlips : List Bool → List Bool → EpochTableView → Type 0
ClearsSlips marks marks' e =
    (step : Step) (earlier : List EpochTableView) → is_on_step step e ≡ true → StandsForSlips marks step earlier
    → StandsForSlips marks' step (e ∷ earlier)

-- the row has a slip of this satellite and code
abbrev pub row_has_slip : ℕ → ℕ → SatelliteRow → Bool
row_has_slip s c r = (r.satellite == s) && (code_at c r).slip

-- the row has this phase
abbrev pub row_has_phase : ℕ → ℕ → SatelliteRow → Bool
row_has_phase s c r = (r.satellite == s) && is_some (code_at c r).phase_millicycles

-- what n codes of a satellite show with the marked slips
abbrev pub codes_with_marks : List Bool → ℕ → SatelliteRow → List Observed
codes_with_marks marks n r = map (λ c. with_slip ((code_at c r).slip || mark_of marks r.satellite c) (code_at c r)) (range_with_len 0 n)

-- a satellite with the marked slips
abbrev pub row_with_marks : List Bool → ℕ → SatelliteRow → SatelliteRow
row_with_marks marks n r = record { satellite = r.satellite; observed = record { items = codes_with_marks marks n r } }

-- an epoch with the marked slips
abbrev pub epoch_with_marks : List Bool → ℕ → EpochTableView → EpochTableView
epoch_with_marks marks n e = record { time = e.time; rows = map (row_with_marks marks n) e.rows }

-- a satellite with the marked slips of as many codes as it shows
abbrev pub row_with_own_marks : List Bool → SatelliteRow → SatelliteRow
row_with_own_marks marks r = row_with_marks marks (length r.observed.items) r

-- an epoch of such satellites
abbrev pub epoch_with_own_marks : List Bool → EpochTableView → EpochTableView
epoch_with_own_marks marks e = record { time = e.time; rows = map (row_with_own_marks marks) e.rows }
