-- The cells of an epoch: one for each satellite, code and kind of message, the first that came.
use Rattle.std.specs.Prelude.{◌≡◌, ℕ, suc, ◌<◌, ◌≤◌, Bool, List, [], ◌∷◌, ◌++◌, ◌==◌, ◌⊎◌, length, nat_lt, ◌&&◌, Option, None, Some, All, not, filter, if◌then◌else◌}
use Rattle.std.specs.List.{list_any}
use Rattle.std.specs.Ordering.{int_eq}
use Rattle.rtk_obs.specs.Cell.{IsInRange}
use Rattle.rtk_obs.specs.Slip.{is_same_source}
use Rattle.rtk_obs.specs.declared.cell.CellSource.{CellSource}
use Rattle.rtk_obs.specs.declared.cell.CellSource.TheVariants.{Legacy, Msm}
use Rattle.rtk_obs.specs.declared.cell.CellEntry.{CellEntry}
use Rattle.rtk_collect.specs.Entries.{Entries}
use Rattle.rtk_collect.specs.Key.{key, key_at, KeysRise}
use Rattle.rtk_collect.specs.Gps.{gps}
use Rattle.rtk_collect.specs.Equal.{equal_cells}

-- an epoch in ms of GPS time with its cells, which rise by key
pub record EpochSetView (E : Type 0) : Type 0 where
  pub epoch : ℕ
  pub cells : List E

abbrev pub is_from : {E S : Type 0} → Entries E S → CellSource → E → Bool
is_from es source c = is_same_source (es.cell c).source source

-- cells of an epoch that all came in this kind of message: they rise, and each is in range
pub record AreKeptOf {E S : Type 0} (es : Entries E S) (InRange : E → Type 0) (source : CellSource) (cells : List E) : Type 0 where
  pub rises : KeysRise es cells
  pub range : All InRange cells
  pub kind : All (λ c. (es.cell c).source ≡ source) cells

-- cells of an epoch: they rise, each is in range, and for 32 satellites, 16 codes and 2 kinds of message there are at most 1,024
pub record AreCellsOfEpoch (cells : List CellEntry) : Type 0 where
  pub rise : KeysRise gps cells
  pub range : All IsInRange cells
  pub few : length cells ≤ 1024

-- the first of the epochs, if there is one, is less
abbrev pub FirstIsBelow : {E : Type 0} → ℕ → List (EpochSetView E) → Type 0
FirstIsBelow e [] = Unit {0}
FirstIsBelow e (x ∷ xs) = x.epoch < e

-- the epochs fall: each is greater than the next one
abbrev pub EpochsFall : {E : Type 0} → List (EpochSetView E) → Type 0
EpochsFall [] = Unit {0}
EpochsFall (x ∷ xs) = FirstIsBelow x.epoch xs × EpochsFall xs

-- a cell joins cells that rise by key: the first under its key stays (this project's rule)
abbrev pub with_cell : {E S : Type 0} → Entries E S → E → List E → List E
with_cell es c [] = c ∷ []
with_cell es c (x ∷ xs) = if nat_lt (key es c) (key es x) then c ∷ x ∷ xs else (if nat_lt (key es x) (key es c) then x ∷ with_cell es c xs else x ∷ xs)

-- the cells of a message join, one after another
abbrev pub with_cells : {E S : Type 0} → Entries E S → List E → List E → List E
with_cells es [] kept = kept
with_cells es (c ∷ more) kept = with_cells es more (with_cell es c kept)

-- an epoch after the cells of a message
abbrev pub joined : {E S : Type 0} → Entries E S → List E → EpochSetView E → EpochSetView E
joined es cells set = record { epoch = set.epoch; cells = with_cells es cells set.cells }

-- the cell under a key
abbrev pub cell_under : {E S : Type 0} → Entries E S → ℕ → List E → Option E
cell_under es k [] = None
cell_under es k (x ∷ xs) = if k == key es x then Some x else cell_under es k xs

abbrev pub preferred : {E : Type 0} → Option E → Option E → Option E
preferred None legacy = legacy
preferred (Some c) legacy = Some c

-- the cell of a satellite and code, by their number: from an MSM, else from a 1004 (this project's rule)
abbrev pub cell_of : {E S : Type 0} → Entries E S → ℕ → List E → Option E
cell_of es place cells = preferred (cell_under es (key_at place Msm) cells) (cell_under es (key_at place Legacy) cells)

-- the first cell of a satellite and code, by their number
abbrev pub first_entry : {E S : Type 0} → Entries E S → ℕ → List E → Option E
first_entry es place [] = None
first_entry es place (x ∷ xs) = if place == es.place x then Some x else first_entry es place xs

abbrev pub one_more : {E : Type 0} → Option E → ℕ → ℕ
one_more None n = suc n
one_more (Some x) n = n

-- how many cells of a message have a key under which no cell is kept
abbrev pub fresh : {E S : Type 0} → Entries E S → List E → List E → ℕ
fresh es [] kept = 0
fresh es (c ∷ more) kept = one_more (cell_under es (key es c) kept) (fresh es more kept)

-- the values of two cells are equal, and their Doppler shifts
abbrev pub equal_values : {E S : Type 0} → Entries E S → E → E → Bool
equal_values es a b = equal_cells (es.cell a) (es.cell b) && int_eq (es.doppler a) (es.doppler b)

-- satellite and code of a cell, if another one is kept under its key
abbrev pub conflict : {E S : Type 0} → Entries E S → E → Option E → List S
conflict es c None = []
conflict es c (Some x) = if equal_values es x c then [] else es.signal c ∷ []

-- formula
-- satellites and codes of the cells that conflict, in the order of the message
abbrev pub conflicts : {E S : Type 0} → Entries E S → List E → List E → List S
conflicts es [] kept = []
conflicts es (c ∷ more) kept = conflict es c (cell_under es (key es c) kept) ++ conflicts es more (with_cell es c kept)

-- the cells whose satellite and code none of the known cells has
abbrev pub left_beside : {E S : Type 0} → Entries E S → List E → List E → List E
left_beside es known cells = filter (λ c. not (list_any (λ k. es.place k == es.place c) known)) cells

-- all cells, or those whose satellite and code none of the known cells has
abbrev pub AreLeftBeside : {E S : Type 0} → Entries E S → List E → List E → List E → Type 0
AreLeftBeside es known cells left = (left ≡ cells) ⊎ (left ≡ left_beside es known cells)

-- all cells came in one kind of message
abbrev pub AreOfOneSource : {E S : Type 0} → Entries E S → List E → Type 0
AreOfOneSource es cells = (source : CellSource) × All (λ c. (es.cell c).source ≡ source) cells
