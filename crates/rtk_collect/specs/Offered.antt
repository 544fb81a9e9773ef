-- What an offer answers and leaves.
use Rattle.std.specs.Prelude.{◌≡◌, ℕ, ◌≤◌, ◌<◌, List, [], ◌∷◌, ◌++◌, length, None, Some, All}
use Rattle.rtk_collect.specs.declared.conflicts.SatelliteCode.{SatelliteCode}
use Rattle.rtk_collect.specs.declared.offer.Offer.{Offer}
use Rattle.rtk_collect.specs.declared.offer.Offer.TheVariants as offer
use Rattle.rtk_collect.specs.declared.outcome.Outcome.{Outcome}
use Rattle.rtk_collect.specs.declared.outcome.Outcome.TheVariants.{Taken, Conflict, Repeat, Late}
use Rattle.rtk_message.specs.declared.any_message.AnyMessage.{AnyMessage as Message}
use Rattle.rtk_obs.specs.declared.cell.CellEntry.{CellEntry}
use Rattle.rtk_collect.specs.EpochSet.{EpochSetView}
use Rattle.rtk_collect.specs.Arrival.{Arrival}
use Rattle.rtk_collect.specs.Entries.{Entries}
use Rattle.rtk_collect.specs.Answer.{IsRightAnswer, TakenClass, class_of}
use Rattle.rtk_collect.specs.Collector.{CollectorView, RepresentsArrivals}

-- what a collector answers without the conflicts, as a gatherer answers it
abbrev pub outcome_of : Offer → Outcome CellEntry SatelliteCode
outcome_of (offer.Taken done listed) = Taken done
outcome_of offer.Repeat = Repeat
outcome_of (offer.Conflict listed) = Conflict
outcome_of offer.Late = Late

-- the conflicts that a collector lists in its answer
abbrev pub listed_by : Offer → List SatelliteCode
listed_by (offer.Taken _ listed) = listed
listed_by offer.Repeat = []
listed_by (offer.Conflict listed) = listed
listed_by offer.Late = []

-- the right answer to an arrival with the list of its conflicts, after which the window represents it
-- too, whatever came before
abbrev pub AnswersArrival : {E S : Type 0} → Entries E S → (Message → List E) → CollectorView E → Arrival → Outcome E S → List S → CollectorView E → Type 0
AnswersArrival es of old a offer listed new =
    (before : List Arrival) → RepresentsArrivals es of old before → IsRightAnswer es of old.places a before offer listed × RepresentsArrivals es of new (a ∷ before)

-- a closed epoch is less than all of the window
abbrev pub ClosesBelow : {E S : Type 0} → Outcome E S → List (EpochSetView E) → Type 0
ClosesBelow (Taken (Some set)) sets = All (λ x. set.epoch < x.epoch) sets
ClosesBelow (Taken None) sets = Unit {0}
ClosesBelow Conflict sets = Unit {0}
ClosesBelow Repeat sets = Unit {0}
ClosesBelow Late sets = Unit {0}

-- an epoch is not below the least of these: each lower bound of them is a lower bound of it
abbrev pub NotBelow : {E : Type 0} → EpochSetView E → List (EpochSetView E) → Type 0
NotBelow set sets = (e : ℕ) → All (λ x. e ≤ x.epoch) sets → e ≤ set.epoch

-- an epoch closes only if the window of n places was full: its least epoch, with its cells
abbrev pub ClosesLeast : {E S : Type 0} → ℕ → List (EpochSetView E) → Outcome E S → Type 0
ClosesLeast {E = E} n sets (Taken (Some set)) = (length sets ≡ n) × ((greater : List (EpochSetView E)) × (sets ≡ greater ++ set ∷ [])) × NotBelow set sets
ClosesLeast n sets (Taken None) = Unit {0}
ClosesLeast n sets Conflict = Unit {0}
ClosesLeast n sets Repeat = Unit {0}
ClosesLeast n sets Late = Unit {0}

-- the arrival would be taken, whatever came before
abbrev pub WouldBeTaken : {E S : Type 0} → Entries E S → (Message → List E) → CollectorView E → Arrival → Type 0
WouldBeTaken es of old a = (before : List Arrival) → RepresentsArrivals es of old before → class_of es of old.places a before ≡ TakenClass

-- once a window is full it stays so, and its least epoch never falls
abbrev pub LeastNeverFalls : {E : Type 0} → CollectorView E → CollectorView E → Type 0
LeastNeverFalls old new = length old.sets ≡ old.places → (length new.sets ≡ new.places) × ((e : ℕ) → All (λ x. e ≤ x.epoch) old.sets → All (λ x. e ≤ x.epoch) new.sets)
