-- How many cells an epoch has, and which epochs are kept.
use Rattle.std.proofs.Common.{◌≡◌, ℕ, ◌≤◌, List, [], ◌∷◌, length, None, Some, refl, ap, sym, ◌∙◌, map, take, inl, inr, subst}
use Rattle.std.specs.Prelude.{All}
use Rattle.std.specs.List.{AllByRecursion}
use Rattle.std.proofs.lemmas.Bool.{cases_order, cases_Bool}
use Rattle.std.proofs.lemmas.List.Elements.{All-from_recursion, recursion_from_All}
use Rattle.rtk_obs.proofs.PublicLaws.{cells_of-satellites}
use Rattle.rtk_collect.specs.Key.{KeysRise}
use Rattle.rtk_collect.specs.EpochSet.{EpochSetView}
use Rattle.rtk_collect.specs.Arrival.{Arrival, At, message_of}
use Rattle.rtk_collect.specs.Late.{late}
use Rattle.rtk_collect.specs.Accepted.{kept, with_arrival}
use Rattle.rtk_collect.specs.Laws.{KeptAreFew, KeptAreGreatest}
use Rattle.rtk_collect.proofs.CellsLemmas.{HasSatellite, satellites-few, with_cells-rises, with_cells-each}
use Rattle.rtk_collect.proofs.ArrivalsLemmas.{keys, keys-take, same_greatest, with_arrival-new, with_arrival-below, with_arrival-same}
use Rattle.rtk_collect.proofs.LateLemmas.{kept-late, kept-new}
use Rattle.rtk_collect.specs.Gps.{gps}
use Rattle.rtk_obs.specs.MessageCells.{cells_of}
use Rattle.rtk_collect.specs.Entries.{Entries}
use Rattle.rtk_message.specs.declared.any_message.AnyMessage.{AnyMessage as Message}

-- what holds of all cells of the arrivals holds of all that are kept, and their keys rise

abbrev pub IsGood : {E S : Type 0} → Entries E S → (E → Type 0) → EpochSetView E → Type 0
IsGood es P x = KeysRise es x.cells × AllByRecursion P x.cells

abbrev pub AreOfArrivals : {E : Type 0} → (Message → List E) → (E → Type 0) → List Arrival → Type 0
AreOfArrivals of P arrivals = AllByRecursion (λ (a : Arrival). AllByRecursion P (of (message_of a))) arrivals

module _ {E S : Type 0} (es : Entries E S) (P : E → Type 0) where
  arrival-good : (e : ℕ) (cs : List E) (xs : List (EpochSetView E)) → AllByRecursion P cs → AllByRecursion (IsGood es P) xs → AllByRecursion (IsGood es P) (with_arrival es e cs xs)
  arrival-good e cs [] a h = ((with_cells-rises es cs [] tt, with_cells-each es P cs [] a tt), tt)
  arrival-good e cs (y ∷ ys) a h = elim (cases_order y.epoch e) [
    | inl same ↦ subst (AllByRecursion (IsGood es P)) (sym (with_arrival-same es e cs y ys (sym same))) ((with_cells-rises es cs y.cells h.0.0, with_cells-each es P cs y.cells a h.0.1), h.1)
    | inr more ↦ elim more [
      | inl new ↦ subst (AllByRecursion (IsGood es P)) (sym (with_arrival-new es e cs y ys new)) ((with_cells-rises es cs [] tt, with_cells-each es P cs [] a tt), h)
      | inr below ↦ subst (AllByRecursion (IsGood es P)) (sym (with_arrival-below es e cs y ys below)) (h.0, arrival-good e cs ys a h.1)
    ]
  ]

  pub kept-good : (of : Message → List E) (n : ℕ) (arrivals : List Arrival) → AreOfArrivals of P arrivals → AllByRecursion (IsGood es P) (kept es of n arrivals)
  kept-good of n [] a = tt
  kept-good of n (At None m ∷ before) a = kept-good of n before a.1
  kept-good of n (At (Some e) m ∷ before) a = elim (cases_Bool (late n (At (Some e) m) before)) [
    | inl over ↦ subst (AllByRecursion (IsGood es P)) (sym (kept-late es of n e m before over)) (kept-good of n before a.1)
    | inr fresh ↦ subst (AllByRecursion (IsGood es P)) (sym (kept-new es of n e m before fresh)) (arrival-good e (of m) (kept es of n before) a.0 (kept-good of n before a.1))
  ]

  good-few : (most : ℕ) → ((cells : List E) → KeysRise es cells → AllByRecursion P cells → length cells ≤ most) → (xs : List (EpochSetView E)) → AllByRecursion (IsGood es P) xs
      → AllByRecursion (λ (x : EpochSetView E). length x.cells ≤ most) xs
  good-few most few [] h = tt
  good-few most few (x ∷ xs) h = (few x.cells h.0.0 h.0.1, good-few most few xs h.1)

  pub kept-few : (of : Message → List E) (most : ℕ) → ((cells : List E) → KeysRise es cells → AllByRecursion P cells → length cells ≤ most) → (n : ℕ) (arrivals : List Arrival)
      → AreOfArrivals of P arrivals → All (λ (x : EpochSetView E). length x.cells ≤ most) (kept es of n arrivals)
  kept-few of most few n arrivals a =
      All-from_recursion (λ (x : EpochSetView E). length x.cells ≤ most) (kept es of n arrivals) (good-few most few (kept es of n arrivals) (kept-good of n arrivals a))

-- what holds of the cells of each message holds of those of all arrivals
pub of-arrivals : {E : Type 0} (of : Message → List E) (P : E → Type 0) → ((m : Message) → All P (of m)) → (arrivals : List Arrival) → AreOfArrivals of P arrivals
of-arrivals of P each [] = tt
of-arrivals of P each (At e m ∷ before) = (recursion_from_All P (of m) (each m), of-arrivals of P each before)

pub kept-are-few : KeptAreFew 1024 gps cells_of
kept-are-few n arrivals = kept-few gps HasSatellite cells_of 1024 satellites-few n arrivals (of-arrivals cells_of HasSatellite cells_of-satellites arrivals)

-- the greatest

pub epochs-keys : {E : Type 0} (xs : List (EpochSetView E)) → map (λ (x : EpochSetView E). x.epoch) xs ≡ keys xs
epochs-keys [] = refl
epochs-keys (x ∷ xs) = ap (λ t. x.epoch ∷ t) (epochs-keys xs)

pub kept-are-greatest : {E S : Type 0} (es : Entries E S) (of : Message → List E) → KeptAreGreatest es of
kept-are-greatest es of n arrivals = epochs-keys (take n (kept es of n arrivals)) ∙ keys-take n (kept es of n arrivals) ∙ same_greatest es of n arrivals
