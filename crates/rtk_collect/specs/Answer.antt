-- What becomes of an arrival.
use Rattle.std.specs.Prelude.{◌≡◌, ℕ, List, [], ◌∷◌, ◌++◌, nat_lt, Option, None, Some, option_to_list, if◌then◌else◌}
use Rattle.rtk_message.specs.declared.any_message.AnyMessage.{AnyMessage as Message}
use Rattle.rtk_message.specs.AnyDecoded.{number_of}
use Rattle.rtk_collect.specs.declared.outcome.Outcome.{Outcome}
use Rattle.rtk_collect.specs.declared.outcome.Outcome.TheVariants.{Taken, Conflict, Repeat, Late}
use Rattle.rtk_collect.specs.Arrival.{Arrival, At}
use Rattle.rtk_collect.specs.Entries.{Entries}
use Rattle.rtk_collect.specs.Equal.{equal_stations}
use Rattle.rtk_collect.specs.EpochSet.{fresh, conflicts}
use Rattle.rtk_collect.specs.Late.{late}
use Rattle.rtk_collect.specs.Accepted.{station, kept, cells_at, closed}

-- the class of an arrival
pub data Class : Type 0 where
  LateClass : Class
  TakenClass : Class
  RepeatClass : Class
  ConflictClass : Class

-- the class if no cell is new: a conflict, if there is one, else a repeat
abbrev pub class_by : {S : Type 0} → List S → Class
class_by [] = RepeatClass
class_by (c ∷ cs) = ConflictClass

-- the class of cells that come in time, by what is kept of their epoch
abbrev pub class_of_cells : {E S : Type 0} → Entries E S → List E → Option (List E) → Class
class_of_cells es cells None = TakenClass
class_of_cells es cells (Some held) = if nat_lt 0 (fresh es cells held) then TakenClass else class_by (conflicts es cells held)

-- the class of a station message that comes in time, by the kept one with its number
abbrev pub class_of_station : Message → Option Message → Class
class_of_station m None = TakenClass
class_of_station m (Some x) = if equal_stations x m then RepeatClass else ConflictClass

-- the class of an arrival that comes in time
abbrev pub class_in_time : {E S : Type 0} → Entries E S → (Message → List E) → ℕ → Arrival → List Arrival → Class
class_in_time es of n (At None m) before = class_of_station m (station n (number_of m) before)
class_in_time es of n (At (Some e) m) before = class_of_cells es (of m) (cells_at e (kept es of n before))

-- the class of an arrival after the ones before it (this project's rule)
abbrev pub class_of : {E S : Type 0} → Entries E S → (Message → List E) → ℕ → Arrival → List Arrival → Class
class_of es of n a before = if late n a before then LateClass else class_in_time es of n a before

-- the conflicts of cells with what is kept of their epoch
abbrev pub conflicts_with : {E S : Type 0} → Entries E S → List E → Option (List E) → List S
conflicts_with es cells None = conflicts es cells []
conflicts_with es cells (Some held) = conflicts es cells held

-- satellites and codes of the cells of an arrival that conflict, in the order of its message
abbrev pub conflicts_of : {E S : Type 0} → Entries E S → (Message → List E) → ℕ → Arrival → List Arrival → List S
conflicts_of es of n (At None m) before = []
conflicts_of es of n (At (Some e) m) before = conflicts_with es (of m) (cells_at e (kept es of n before))

-- the right answer to an arrival after the ones before it, and the conflicts that are listed with it:
-- none with one that is late or a repeat. Only one that is taken closes an epoch
abbrev pub IsRightAnswer : {E S : Type 0} → Entries E S → (Message → List E) → ℕ → Arrival → List Arrival → Outcome E S → List S → Type 0
IsRightAnswer es of n a before Late listed = (class_of es of n a before ≡ LateClass) × (listed ≡ []) × (closed es of n (a ∷ before) ≡ closed es of n before)
IsRightAnswer es of n a before (Taken done) listed = (class_of es of n a before ≡ TakenClass) × (listed ≡ conflicts_of es of n a before) × (closed es of n (a ∷ before) ≡ option_to_list done ++ closed es of n before)
IsRightAnswer es of n a before Conflict listed = (class_of es of n a before ≡ ConflictClass) × (listed ≡ conflicts_of es of n a before) × (closed es of n (a ∷ before) ≡ closed es of n before)
IsRightAnswer es of n a before Repeat listed = (class_of es of n a before ≡ RepeatClass) × (listed ≡ []) × (closed es of n (a ∷ before) ≡ closed es of n before)
