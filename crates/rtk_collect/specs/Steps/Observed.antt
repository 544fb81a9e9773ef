-- What an observation with these cells answers and leaves.
use Rattle.std.specs.Prelude.{◌≡◌, ◌≢◌, ℕ, ◌<◌, ◌≤◌, List, [], ◌∷◌, length, take, None, Some, All}
use Rattle.rtk_message.specs.declared.any_message.AnyMessage.{AnyMessage as Message}
use Rattle.rtk_collect.specs.declared.outcome.Outcome.{Outcome}
use Rattle.rtk_collect.specs.declared.outcome.Outcome.TheVariants.{Taken, Conflict, Repeat, Late}
use Rattle.rtk_collect.specs.EpochSet.{EpochSetView, EpochsFall}
use Rattle.rtk_collect.specs.Arrival.{Arrival, At}
use Rattle.rtk_collect.specs.Entries.{Entries}
use Rattle.rtk_collect.specs.Accepted.{kept}
use Rattle.rtk_collect.specs.Answer.{IsRightAnswer, TakenClass, class_of}
use Rattle.rtk_collect.specs.Offered.{ClosesBelow, ClosesLeast}

-- what an observation with these cells leaves of the epochs of a window of n places, with the right
-- answer and the list of its conflicts, whatever came before and whatever cells other messages have
pub record AddsCells {E S : Type 0} (es : Entries E S) (n e : ℕ) (cells : List E) (sets new : List (EpochSetView E)) (offer : Outcome E S) (listed : List S) : Type 0 where
  pub len : length new ≤ n
  pub falls : EpochsFall new
  pub answer : (of : Message → List E) (m : Message) → of m ≡ cells → (before : List Arrival) → sets ≡ take n (kept es of n before)
      → IsRightAnswer es of n (At (Some e) m) before offer listed × (new ≡ take n (kept es of n (At (Some e) m ∷ before)))
  pub below : ClosesBelow offer new
  pub least_closes : ClosesLeast n sets offer
  pub least : length sets ≡ n → (length new ≡ n) × ((x : ℕ) → All (λ s. x ≤ s.epoch) sets → All (λ s. x ≤ s.epoch) new)

-- each message that has these cells would be taken, whatever the others have
abbrev pub WouldTakeCells : {E S : Type 0} → Entries E S → ℕ → ℕ → List E → List (EpochSetView E) → Type 0
WouldTakeCells {E} es n e cells sets =
    (of : Message → List E) (m : Message) → of m ≡ cells → (before : List Arrival) → sets ≡ take n (kept es of n before) → class_of es of n (At (Some e) m) before ≡ TakenClass

-- an answer that closes no epoch may list these conflicts: none with one that is late or a repeat
abbrev pub ListsConflicts : {E S : Type 0} → Outcome E S → List S → Type 0
ListsConflicts Late listed = listed ≡ []
ListsConflicts (Taken done) listed = done ≡ None
ListsConflicts Conflict listed = Unit {0}
ListsConflicts Repeat listed = listed ≡ []

-- the answer to cells that joined an epoch of the window, by how many were new and which conflict
abbrev pub IsAnswerOf : {E S : Type 0} → ℕ → List S → Outcome E S → Type 0
IsAnswerOf count found Late = ⊥
IsAnswerOf count found (Taken done) = (0 < count) × (done ≡ None)
IsAnswerOf count found Conflict = (count ≡ 0) × (found ≢ [])
IsAnswerOf count found Repeat = (count ≡ 0) × (found ≡ [])
