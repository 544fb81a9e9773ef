-- Two files side by side: their epochs in one order of time, and the rows of two epochs in one order of
-- satellites. All of it is this project's rule.
use Rattle.std.specs.Prelude.{ℕ, nat_lt, ◌==◌, if◌then◌else◌, List, [], ◌∷◌, map}
use Rattle.rtk_rinex.specs.Record.{EpochTableView}
use Rattle.rtk_rinex.specs.declared.epoch_table.SatelliteRow.{SatelliteRow}

-- what the old and the new file have beside each other
pub record Pair (A : Type 0) : Type 0 where
  pub old : A
  pub new : A

-- what brings two lists into one order: a number of each element, and of an element the one with the same
-- number that has nothing
pub record Order (A : Type 0) : Type 0 where
  pub number : A → ℕ
  pub without : A → A

-- an element that one file alone has
abbrev pub old_alone : {A : Type 0} → Order A → A → Pair A
old_alone order x = record { old = x; new = order.without x }

abbrev pub new_alone : {A : Type 0} → Order A → A → Pair A
new_alone order y = record { old = order.without y; new = y }

-- an element of the old file, and before it those of the new file with lesser numbers; `others` is what comes
-- of the further elements of the old file
abbrev pub beside : {A : Type 0} → Order A → A → (List A → List (Pair A)) → List A → List (Pair A)
beside order x others [] = old_alone order x ∷ others []
beside order x others (y ∷ ys) =
    if nat_lt (order.number y) (order.number x) then new_alone order y ∷ beside order x others ys
    else if order.number x == order.number y then record { old = x; new = y } ∷ others ys
    else old_alone order x ∷ others (y ∷ ys)

-- the elements of two rising lists in one rising order: those with one number stand beside each other, and
-- each other one beside nothing
abbrev pub side_by_side : {A : Type 0} → Order A → List A → List A → List (Pair A)
side_by_side order [] ys = map (new_alone order) ys
side_by_side order (x ∷ xs) ys = beside order x (side_by_side order xs) ys

-- epochs by their moments
abbrev pub by_time : Order EpochTableView
by_time = record { number = λ e. e.time; without = λ e. record { time = e.time; rows = [] } }

-- rows by their satellites
abbrev pub by_satellite : Order SatelliteRow
by_satellite =
    record { number = λ r. r.satellite; without = λ r. record { satellite = r.satellite; observed = record { items = [] } } }

-- the rows of two epochs
abbrev pub rows_beside : Pair EpochTableView → List (Pair SatelliteRow)
rows_beside p = side_by_side by_satellite p.old.rows p.new.rows
