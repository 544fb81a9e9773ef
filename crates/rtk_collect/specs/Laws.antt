-- Laws of late arrivals, kept cells and closed epochs.
use Rattle.std.specs.Prelude.{◌≡◌, ◌↔◌, ◌⊎◌, ℕ, ◌-◌, ◌<◌, ◌≤◌, Bool, true, false, not, List, [], ◌∷◌, ◌++◌, length, map, take, drop, All, Option, None, Some, option_and_then, ◌&&◌, ◌==◌, if◌then◌else◌}
use Rattle.std.specs.Bool.{Decides}
use Rattle.rtk_message.specs.declared.arp1005.Arp1005.{Arp1005 as Message1005}
use Rattle.rtk_message.specs.declared.arp1006.Arp1006.{Arp1006 as Message1006}
use Rattle.rtk_message.specs.declared.any_message.AnyMessage.{AnyMessage as Message}
use Rattle.rtk_message.specs.AnyDecoded.{number_of, IsValid}
use Rattle.rtk_obs.specs.declared.cell.Cell.{Cell}
use Rattle.rtk_obs.specs.declared.cell.CellEntry.{CellEntry}
use Rattle.rtk_collect.specs.declared.outcome.Outcome.{Outcome}
use Rattle.rtk_collect.specs.declared.outcome.Outcome.TheVariants.{Taken}
use Rattle.rtk_collect.specs.Entries.{Entries}
use Rattle.rtk_collect.specs.Key.{key, KeysRise}
use Rattle.rtk_collect.specs.Gps.{gps}
use Rattle.rtk_collect.specs.EpochSet.{EpochsFall, EpochSetView, joined, cell_under, cell_of, first_entry, conflicts}
use Rattle.rtk_collect.specs.Equal.{equal_cells, equal_1005, equal_1006, equal_stations, is_first}
use Rattle.rtk_collect.specs.Arrival.{Arrival, At, message_of}
use Rattle.rtk_collect.specs.Late.{epochs, is_excused, late}
use Rattle.rtk_collect.specs.Answer.{IsRightAnswer}
use Rattle.rtk_collect.specs.Collector.{CollectorView, IsCollectorView, RepresentsArrivals}
use Rattle.rtk_collect.specs.Offered.{AnswersArrival}
use Rattle.rtk_collect.specs.NextWindow.{IsTimed, outcome_in, conflicts_in, next_window}
use Rattle.rtk_collect.specs.Accepted.{station, no_cells, with_arrival, kept, cells_at, closed, IsTaken, AmongCells, IsTakenCell, IsConsistent}

-- the arrivals without those that are late
abbrev pub without_late : ℕ → List Arrival → List Arrival
without_late n [] = []
without_late n (a ∷ before) = if late n a before then without_late n before else a ∷ without_late n before

-- none of the arrivals is late
abbrev pub AreInTime : ℕ → List Arrival → Type 0
AreInTime n [] = Unit {0}
AreInTime n (a ∷ before) = (late n a before ≡ false) × AreInTime n before

-- if all late arrivals are deleted, each further one is late or not as it was, none that stays is
-- late, the same arrivals were not late, and the same is kept
abbrev pub LateArrivalsChangeNothing : {E S : Type 0} → Entries E S → (Message → List E) → Type 0
LateArrivalsChangeNothing {E} es of = (n : ℕ) (arrivals : List Arrival) → ((a : Arrival) → late n a (without_late n arrivals) ≡ late n a arrivals)
    × AreInTime n (without_late n arrivals)
    × ((a : Arrival) → IsTaken n a (without_late n arrivals) ↔ IsTaken n a arrivals)
    × (kept es of n (without_late n arrivals) ≡ kept es of n arrivals)
    × ((k : ℕ) → station n k (without_late n arrivals) ≡ station n k arrivals)

-- further arrivals leave the closed epochs with their cells as they are, and add others before them
abbrev pub ClosedOnlyGrow : {E S : Type 0} → Entries E S → (Message → List E) → Type 0
ClosedOnlyGrow {E} es of = (n : ℕ) (later before : List Arrival) → (more : List (EpochSetView E)) × (closed es of n (later ++ before) ≡ more ++ closed es of n before)

-- the closed epochs fall: each that closes is greater than the ones that closed before
abbrev pub ClosedFall : {E S : Type 0} → Entries E S → (Message → List E) → Type 0
ClosedFall {E} es of = (n : ℕ) (arrivals : List Arrival) → EpochsFall (closed es of n arrivals)

-- an epoch is closed only once n observation epochs have come
abbrev pub ClosedAfter : {E S : Type 0} → Entries E S → (Message → List E) → Type 0
ClosedAfter {E} es of = (n : ℕ) (arrivals : List Arrival) → (closed es of n arrivals ≡ []) ⊎ (n ≤ length (epochs arrivals))

-- the closed epochs are the kept epochs except the n greatest
abbrev pub ClosedAreRest : {E S : Type 0} → Entries E S → (Message → List E) → Type 0
ClosedAreRest {E} es of = (n : ℕ) (arrivals : List Arrival) → closed es of n arrivals ≡ drop n (kept es of n arrivals)

-- so there are n fewer of them than kept ones, or none
abbrev pub ClosedAreCounted : {E S : Type 0} → Entries E S → (Message → List E) → Type 0
ClosedAreCounted {E} es of = (n : ℕ) (arrivals : List Arrival) → length (closed es of n arrivals) ≡ length (kept es of n arrivals) - n

-- a message equals the kept station message with its number
abbrev pub is_kept : ℕ → Message → List Arrival → Bool
is_kept n m before = is_first equal_stations (station n (number_of m) before) m

-- a station message is excused exactly if it equals the kept one with its number
abbrev pub ExcusedIsKept : Type 0
ExcusedIsKept = (n : ℕ) (m : Message) (before : List Arrival) → is_excused n (At None m) before ≡ is_kept n m before

-- once n observation epochs have come, a station message is late unless it equals the kept one, and
-- the kept ones stay
abbrev pub StationsAreFinal : Type 0
StationsAreFinal = (n : ℕ) (before : List Arrival) → n ≤ length (epochs before)
    → ((m : Message) → late n (At None m) before ≡ not (is_kept n m before)) × ((a : Arrival) (k : ℕ) → station n k (a ∷ before) ≡ station n k before)

-- a kept cell of an epoch
abbrev pub IsKept : {E : Type 0} → ℕ → E → List (EpochSetView E) → Type 0
IsKept e c [] = ⊥
IsKept e c (x ∷ xs) = ((x.epoch ≡ e) × AmongCells c x.cells) ⊎ IsKept e c xs

-- an epoch stands among these
abbrev pub HasEpoch : {E : Type 0} → ℕ → List (EpochSetView E) → Type 0
HasEpoch e [] = ⊥
HasEpoch e (x ∷ xs) = (x.epoch ≡ e) ⊎ HasEpoch e xs

-- the kept epochs are the epochs of the observations that were not late; each kept cell and station
-- message came in an arrival that was not late; and if the arrivals are consistent, each cell and
-- station message that came in such an arrival is kept: no part of a split epoch is dropped
abbrev pub KeptAreTaken : {E S : Type 0} → Entries E S → (Message → List E) → Type 0
KeptAreTaken {E} es of = (n : ℕ) (arrivals : List Arrival) →
    ((e : ℕ) → HasEpoch e (kept es of n arrivals) ↔ ((m : Message) × IsTaken n (At (Some e) m) arrivals))
    × ((e : ℕ) (c : E) → IsKept e c (kept es of n arrivals) → IsTakenCell es of n e c arrivals)
    × ((m : Message) (k : ℕ) → station n k arrivals ≡ Some m → IsTaken n (At None m) arrivals × (number_of m ≡ k))
    × (IsConsistent es of n arrivals → ((e : ℕ) (c : E) → IsTakenCell es of n e c arrivals → IsKept e c (kept es of n arrivals))
    × ((m : Message) → IsTaken n (At None m) arrivals → station n (number_of m) arrivals ≡ Some m))

-- what is kept of consistent arrivals depends only on which of them were not late: not on their
-- order or number
abbrev pub SetDecides : {E S : Type 0} → Entries E S → (Message → List E) → Type 0
SetDecides {E} es of = (n : ℕ) (first second : List Arrival) → IsConsistent es of n first → IsConsistent es of n second → ((a : Arrival) → IsTaken n a first ↔ IsTaken n a second)
    → (kept es of n first ≡ kept es of n second) × ((k : ℕ) → station n k first ≡ station n k second)

-- a late observation leaves the kept epochs as they are
abbrev pub LateLeavesKept : {E S : Type 0} → Entries E S → (Message → List E) → Type 0
LateLeavesKept {E} es of = (n e : ℕ) (m : Message) (before : List Arrival) → late n (At (Some e) m) before ≡ true → kept es of n (At (Some e) m ∷ before) ≡ kept es of n before

-- the cells of an observation that is not late join the kept epochs
abbrev pub InTimeJoinsKept : {E S : Type 0} → Entries E S → (Message → List E) → Type 0
InTimeJoinsKept {E} es of = (n e : ℕ) (m : Message) (before : List Arrival) → late n (At (Some e) m) before ≡ false
    → kept es of n (At (Some e) m ∷ before) ≡ with_arrival es e (of m) (kept es of n before)

-- an observation whose epoch is kept opens none
abbrev pub KeptOpensNone : {E S : Type 0} → Entries E S → (Message → List E) → Type 0
KeptOpensNone {E} es of = (n e : ℕ) (m : Message) (cells : List E) (before : List Arrival) → cells_at e (kept es of n before) ≡ Some cells
    → length (kept es of n (At (Some e) m ∷ before)) ≡ length (kept es of n before)

-- cells of an epoch that is greater than the greatest one open it
abbrev pub GreaterOpens : {E S : Type 0} → Entries E S → Type 0
GreaterOpens {E} es = (e : ℕ) (cells : List E) (x : EpochSetView E) (xs : List (EpochSetView E)) → x.epoch < e
    → with_arrival es e cells (x ∷ xs) ≡ joined es cells (no_cells e) ∷ x ∷ xs

-- cells of a lesser epoch leave the greatest one, and join the others
abbrev pub LesserJoinsOthers : {E S : Type 0} → Entries E S → Type 0
LesserJoinsOthers {E} es = (e : ℕ) (cells : List E) (x : EpochSetView E) (xs : List (EpochSetView E)) → e < x.epoch
    → with_arrival es e cells (x ∷ xs) ≡ x ∷ with_arrival es e cells xs

-- cells of the greatest epoch join it
abbrev pub SameJoins : {E S : Type 0} → Entries E S → Type 0
SameJoins {E} es = (e : ℕ) (cells : List E) (x : EpochSetView E) (xs : List (EpochSetView E)) → e ≡ x.epoch
    → with_arrival es e cells (x ∷ xs) ≡ joined es cells x ∷ xs

-- the kept epochs fall
abbrev pub KeptFall : {E S : Type 0} → Entries E S → (Message → List E) → Type 0
KeptFall {E} es of = (n : ℕ) (arrivals : List Arrival) → EpochsFall (kept es of n arrivals)

-- the cells of each of these epochs rise by key
abbrev pub CellsRise : {E S : Type 0} → Entries E S → List (EpochSetView E) → Type 0
CellsRise es [] = Unit {0}
CellsRise es (x ∷ xs) = KeysRise es x.cells × CellsRise es xs

-- the cells of each kept epoch rise
abbrev pub KeptRise : {E S : Type 0} → Entries E S → (Message → List E) → Type 0
KeptRise {E} es of = (n : ℕ) (arrivals : List Arrival) → CellsRise es (kept es of n arrivals)

-- two lists of epochs that fall, with cells that rise, are equal if their epochs and cells are
abbrev pub OrderedAreSame : {E S : Type 0} → Entries E S → Type 0
OrderedAreSame {E} es = (xs ys : List (EpochSetView E)) → EpochsFall xs → EpochsFall ys → CellsRise es xs → CellsRise es ys
    → ((e : ℕ) → HasEpoch e xs → HasEpoch e ys) → ((e : ℕ) → HasEpoch e ys → HasEpoch e xs)
    → ((e : ℕ) (c : E) → IsKept e c xs → IsKept e c ys) → ((e : ℕ) (c : E) → IsKept e c ys → IsKept e c xs) → xs ≡ ys

-- an epoch has at most so many kept cells
abbrev pub KeptAreFew : {E S : Type 0} → ℕ → Entries E S → (Message → List E) → Type 0
KeptAreFew most es of = (n : ℕ) (arrivals : List Arrival) → All (λ x. length x.cells ≤ most) (kept es of n arrivals)

-- the n greatest kept epochs are the n greatest distinct epochs that came
abbrev pub KeptAreGreatest : {E S : Type 0} → Entries E S → (Message → List E) → Type 0
KeptAreGreatest {E} es of = (n : ℕ) (arrivals : List Arrival) → map (λ x. x.epoch) (take n (kept es of n arrivals)) ≡ take n (epochs arrivals)

-- if a message opens its epoch, none of its cells conflicts, since no two of them have one
-- satellite and code
abbrev pub OpeningConflictsNot : {E S : Type 0} → Entries E S → (Message → List E) → Type 0
OpeningConflictsNot es of = (m : Message) → IsValid m → conflicts es (of m) [] ≡ []

-- a message that closes an epoch opens one, so none of its cells conflicts
abbrev pub ClosingConflictsNot : {E S : Type 0} → Entries E S → (Message → List E) → Type 0
ClosingConflictsNot {E = E} {S = S} es of = (n : ℕ) (a : Arrival) (before : List Arrival) (set : EpochSetView E) (listed : List S) → IsValid (message_of a)
    → IsRightAnswer es of n a before (Taken (Some set)) listed → listed ≡ []

-- two cells have one key exactly if satellite, code and kind of message are the same
abbrev pub KeysAreDistinct : Type 0
KeysAreDistinct = (c d : CellEntry) → (key gps c ≡ key gps d) ↔ ((c.satellite ≡ d.satellite) × (c.code ≡ d.code) × (c.cell.source ≡ d.cell.source))

-- if keys rise, the first cell of a satellite and code, by their number, came in an MSM, if there is such a
-- cell, else in a 1004
abbrev pub FirstIsPreferred : {E S : Type 0} → Entries E S → Type 0
FirstIsPreferred {E} es = (place : ℕ) (cells : List E) → KeysRise es cells → first_entry es place cells ≡ cell_of es place cells

-- bodies are equal exactly if they are the same
abbrev pub EqualityDecides : Type 0
EqualityDecides = ((a b : Cell) → Decides (equal_cells a b) (a ≡ b)) × ((a b : Message1005) → Decides (equal_1005 a b) (a ≡ b)) × ((a b : Message1006) → Decides (equal_1006 a b) (a ≡ b))

-- the earlier cell, if there is one, else the later one
abbrev pub earlier : {E : Type 0} → Option E → Option E → Option E
earlier None later = later
earlier (Some c) later = Some c

-- the cell with this key of the first arrival of this epoch that has one and was not late
abbrev pub first_taken : {E S : Type 0} → Entries E S → (Message → List E) → ℕ → ℕ → ℕ → List Arrival → Option E
first_taken es of n e k [] = None
first_taken es of n e k (At None m ∷ before) = first_taken es of n e k before
first_taken es of n e k (At (Some x) m ∷ before) =
    earlier (first_taken es of n e k before) (if (x == e) && not (late n (At (Some x) m) before) then cell_under es k (of m) else None)

-- under each key of an epoch the cell of the first arrival with one that was not late is kept, also
-- if later ones differ from it
abbrev pub FirstIsKept : {E S : Type 0} → Entries E S → (Message → List E) → Type 0
FirstIsKept {E} es of = (n e k : ℕ) (arrivals : List Arrival) → option_and_then (cell_under es k) (cells_at e (kept es of n arrivals)) ≡ first_taken es of n e k arrivals

-- what a window that represents arrivals answers to a further one, and is afterwards, follows from what
-- it holds: it is the right answer, and the next window represents all of them
abbrev pub WindowsAnswer : {E S : Type 0} → Entries E S → (Message → List E) → Type 0
WindowsAnswer {E = E} es of = (w : CollectorView E) (a : Arrival) → IsCollectorView w → IsTimed a → AnswersArrival es of w a (outcome_in es of w a) (conflicts_in es of w a) (next_window es of w a)

-- a right answer is the only one, with its conflicts
abbrev pub AnswersAreUnique : {E S : Type 0} → Entries E S → (Message → List E) → Type 0
AnswersAreUnique {E = E} {S = S} es of = (n : ℕ) (a : Arrival) (before : List Arrival) (one other : Outcome E S) (listed others : List S)
    → IsRightAnswer es of n a before one listed → IsRightAnswer es of n a before other others → (one ≡ other) × (listed ≡ others)

-- arrivals are represented by one window of each number of places
abbrev pub WindowsAreUnique : {E S : Type 0} → Entries E S → (Message → List E) → Type 0
WindowsAreUnique {E} es of = (v w : CollectorView E) (arrivals : List Arrival) → v.places ≡ w.places → RepresentsArrivals es of v arrivals → RepresentsArrivals es of w arrivals → v ≡ w

-- an empty window represents no arrivals
abbrev pub NewWindowIsEmpty : {E S : Type 0} → Entries E S → (Message → List E) → Type 0
NewWindowIsEmpty {E} es of = (n : ℕ) → RepresentsArrivals es of (record { places = n; sets = []; arp1005 = None; arp1006 = None }) []
