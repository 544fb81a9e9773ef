-- What is kept of the arrivals, and which epochs are closed.
use Rattle.std.specs.Prelude.{◌≡◌, ◌⊎◌, ℕ, false, not, ◌&&◌, List, [], ◌∷◌, ◌==◌, nat_lt, nat_le, Option, None, Some, filter, if◌then◌else◌}
use Rattle.rtk_message.specs.declared.any_message.AnyMessage.{AnyMessage as Message}
use Rattle.rtk_message.specs.AnyDecoded.{number_of}
use Rattle.rtk_collect.specs.Arrival.{Arrival, At}
use Rattle.rtk_collect.specs.Entries.{Entries}
use Rattle.rtk_collect.specs.Key.{key}
use Rattle.rtk_collect.specs.EpochSet.{EpochSetView, joined}
use Rattle.rtk_collect.specs.Late.{epochs, greater, late}

-- formula
-- the first message stays
abbrev pub first : Option Message → Message → Option Message
first None m = Some m
first (Some x) m = Some x

-- the kept station message with this number: the first that was not late
abbrev pub station : ℕ → ℕ → List Arrival → Option Message
station n k [] = None
station n k (At (Some e) m ∷ before) = station n k before
station n k (At None m ∷ before) = if (number_of m == k) && not (late n (At None m) before) then first (station n k before) m else station n k before

-- an epoch without cells
abbrev pub no_cells : {E : Type 0} → ℕ → EpochSetView E
no_cells e = record { epoch = e; cells = [] }

-- cells join their epoch, or open it, among epochs that fall
abbrev pub with_arrival : {E S : Type 0} → Entries E S → ℕ → List E → List (EpochSetView E) → List (EpochSetView E)
with_arrival es e cells [] = joined es cells (no_cells e) ∷ []
with_arrival es e cells (x ∷ xs) =
    if nat_lt x.epoch e then joined es cells (no_cells e) ∷ x ∷ xs else (if nat_lt e x.epoch then x ∷ with_arrival es e cells xs else joined es cells x ∷ xs)

-- the epochs of the observations that were not late, falling, each with the first cell under each
-- key
abbrev pub kept : {E S : Type 0} → Entries E S → (Message → List E) → ℕ → List Arrival → List (EpochSetView E)
kept es of n [] = []
kept es of n (At None m ∷ before) = kept es of n before
kept es of n (At (Some e) m ∷ before) = if late n (At (Some e) m) before then kept es of n before else with_arrival es e (of m) (kept es of n before)

-- the cells of an epoch, if it is one of these
abbrev pub cells_at : {E : Type 0} → ℕ → List (EpochSetView E) → Option (List E)
cells_at e [] = None
cells_at e (x ∷ xs) = if e == x.epoch then Some x.cells else cells_at e xs

-- formula
-- the kept epochs that are closed: at least n distinct greater ones have come
abbrev pub closed : {E S : Type 0} → Entries E S → (Message → List E) → ℕ → List Arrival → List (EpochSetView E)
closed es of n arrivals = filter (λ x. nat_le n (greater (Some x.epoch) (epochs arrivals))) (kept es of n arrivals)

-- an arrival that was not late
abbrev pub IsTaken : ℕ → Arrival → List Arrival → Type 0
IsTaken n a [] = ⊥
IsTaken n a (x ∷ before) = ((late n x before ≡ false) × (x ≡ a)) ⊎ IsTaken n a before

abbrev pub AmongCells : {E : Type 0} → E → List E → Type 0
AmongCells c [] = ⊥
AmongCells c (x ∷ xs) = (c ≡ x) ⊎ AmongCells c xs

-- a cell of an epoch that came in a message that was not late
abbrev pub IsTakenCell : {E S : Type 0} → Entries E S → (Message → List E) → ℕ → ℕ → E → List Arrival → Type 0
IsTakenCell es of n e c arrivals = (m : Message) × IsTaken n (At (Some e) m) arrivals × AmongCells c (of m)

-- equal keys carry equal bodies, among the arrivals that are not late
pub record IsConsistent {E S : Type 0} (es : Entries E S) (of : Message → List E) (n : ℕ) (arrivals : List Arrival) : Type 0 where
  pub cells : (e : ℕ) (c d : E) → IsTakenCell es of n e c arrivals → IsTakenCell es of n e d arrivals → key es c ≡ key es d → c ≡ d
  pub stations : (m o : Message) → IsTaken n (At None m) arrivals → IsTaken n (At None o) arrivals → number_of m ≡ number_of o → m ≡ o
