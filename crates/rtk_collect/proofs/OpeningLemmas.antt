-- A message that opens an epoch conflicts with nothing.
use Rattle.std.proofs.Common.{◌≡◌, ◌≢◌, ℕ, suc, ◌-◌, List, [], ◌∷◌, ◌++◌, length, get_or, Option, None, Some, refl, ap, sym, ◌∙◌, arith, inl, inr}
use Rattle.std.specs.List.{AllByRecursion}
use Rattle.std.proofs.lemmas.Bool.{cases_order, cases_lt, ne_eqb}
use Rattle.std.proofs.lemmas.List.{length-drop}
use Rattle.std.proofs.lemmas.List.Elements.{recursion_from_All}
use Rattle.rtk_message.specs.declared.any_message.AnyMessage.{AnyMessage as Message}
use Rattle.rtk_message.specs.AnyDecoded.{IsValid}
use Rattle.rtk_obs.specs.declared.cell.CellEntry.{CellEntry}
use Rattle.rtk_obs.specs.Cell.{AreDifferentSignals, AreDistinct}
use Rattle.rtk_obs.proofs.PublicLaws.{cells_of-distinct}
use Rattle.rtk_collect.specs.Key.{key}
use Rattle.rtk_collect.specs.EpochSet.{EpochSetView, with_cell, cell_under, conflict, conflicts, EpochsFall}
use Rattle.rtk_collect.specs.Arrival.{Arrival, At}
use Rattle.rtk_collect.specs.Late.{epochs}
use Rattle.rtk_collect.specs.Accepted.{no_cells, with_arrival, kept, cells_at, closed}
use Rattle.rtk_collect.specs.Answer.{conflicts_with}
use Rattle.rtk_collect.specs.Laws.{ClosedAreCounted, KeptOpensNone, OpeningConflictsNot, ClosingConflictsNot}
use Rattle.rtk_collect.proofs.EqualityLemmas.{keys-are-distinct}
use Rattle.rtk_collect.proofs.CellsLemmas.{with_cell-all}
use Rattle.rtk_collect.proofs.ArrivalsLemmas.{leadingN, with_arrival-below, with_arrival-same, below-none, is-late, is-open, kept-falls}
use Rattle.rtk_collect.proofs.JoinsLemmas.{closed-drop}
use Rattle.rtk_collect.specs.Gps.{gps}
use Rattle.rtk_obs.specs.MessageCells.{cells_of}
use Rattle.rtk_collect.specs.Entries.{Entries}

-- cells with different keys

abbrev pub HasOtherKey : {E S : Type 0} (es : Entries E S) → E → E → Type 0
HasOtherKey es c d = key es c ≢ key es d

keys-differ : (a b : CellEntry) → AreDifferentSignals a b → HasOtherKey gps a b
keys-differ a b h k = let p = (keys-are-distinct a b).0 k in h p.0 p.1

-- no two of the cells have one key
abbrev pub KeysDiffer : {E S : Type 0} (es : Entries E S) → List E → Type 0
KeysDiffer es [] = Unit {0}
KeysDiffer es (c ∷ cs) = AllByRecursion (HasOtherKey es c) cs × KeysDiffer es cs

pairs-differ : (xs : List CellEntry) → AreDistinct xs → KeysDiffer gps xs
pairs-differ [] h = tt
pairs-differ (x ∷ xs) h = (
  recursion_from_All (HasOtherKey gps x) xs (λ j d l. keys-differ x (get_or xs j d) (h 0 (suc j) d (omega arith) (omega arith))),
  pairs-differ xs (λ i j d before inside. h (suc i) (suc j) d (omega arith) (omega arith)),
)

none-under : {E S : Type 0} (es : Entries E S) (c : E) (xs : List E) → AllByRecursion (HasOtherKey es c) xs → cell_under es (key es c) xs ≡ None
none-under es c [] a = refl
none-under es c (x ∷ xs) a = rw (ne_eqb (key es c) (key es x) a.0) (none-under es c xs a.1)

after-join : {E S : Type 0} (es : Entries E S) (c : E) (more held : List E) → AllByRecursion (HasOtherKey es c) more → AllByRecursion (λ d. AllByRecursion (HasOtherKey es d) held) more
    → AllByRecursion (λ d. AllByRecursion (HasOtherKey es d) (with_cell es c held)) more
after-join es c [] held a b = tt
after-join es c (d ∷ more) held a b = (with_cell-all es (HasOtherKey es d) c held (λ k. a.0 (sym k)) b.0, after-join es c more held a.1 b.1)

none-conflict : {E S : Type 0} (es : Entries E S) (cs held : List E) → KeysDiffer es cs → AllByRecursion (λ c. AllByRecursion (HasOtherKey es c) held) cs → conflicts es cs held ≡ []
none-conflict es [] held p a = refl
none-conflict es (c ∷ more) held p a =
    ap (λ o. conflict es c o ++ conflicts es more (with_cell es c held)) (none-under es c held a.0) ∙ none-conflict es more (with_cell es c held) p.1 (after-join es c more held p.0 a.1)

beside-none : {E S : Type 0} (es : Entries E S) (cs : List E) → AllByRecursion (λ c. AllByRecursion (HasOtherKey es c) []) cs
beside-none es [] = tt
beside-none es (c ∷ cs) = (tt, beside-none es cs)

pub differ-none : {E S : Type 0} (es : Entries E S) (cs : List E) → KeysDiffer es cs → conflicts es cs [] ≡ []
differ-none es cs h = none-conflict es cs [] h (beside-none es cs)

pub opening-conflicts-not : OpeningConflictsNot gps cells_of
opening-conflicts-not m valid = differ-none gps (cells_of m) (pairs-differ (cells_of m) (cells_of-distinct m valid))

-- a message that closes an epoch opens one

pub length-held : {E S : Type 0} (es : Entries E S) (e : ℕ) (cs b : List E) (xs : List (EpochSetView E)) → EpochsFall xs → cells_at e xs ≡ Some b → length (with_arrival es e cs xs) ≡ length xs
length-held es e cs b [] f h = cc
length-held es e cs b (x ∷ xs) f h = elim (cases_order x.epoch e) [
  | inl same ↦ ap length (with_arrival-same es e cs x xs (sym same))
  | inr more ↦ elim more [
    | inl new ↦ let q = below-none e x xs f new in cc
    | inr below ↦ ap length (with_arrival-below es e cs x xs below) ∙ ap suc (length-held es e cs b xs f.1 (rw (ne_eqb e x.epoch (λ q. omega arith)) at h))
  ]
]

pub closed-length : {E S : Type 0} (es : Entries E S) (of : Message → List E) → ClosedAreCounted es of
closed-length es of n arrivals = ap length (closed-drop es of n (no_cells 0) arrivals) ∙ length-drop n (kept es of n arrivals)

pub held-length : {E S : Type 0} (es : Entries E S) (of : Message → List E) → KeptOpensNone es of
held-length es of n e m b before h = elim (cases_lt (leadingN e (epochs before)) n) [
  | inl fresh ↦ ap length (is-open es of n e m before fresh) ∙ length-held es e (of m) b (kept es of n before) (kept-falls es of n before) h
  | inr over ↦ ap length (is-late es of n e m before over)
]

module _ {E S : Type 0} (es : Entries E S) (of : Message → List E) (opens : OpeningConflictsNot es of) where
  found-by : (n e : ℕ) (m : Message) (before : List Arrival) (set : EpochSetView E) (o : Option (List E)) → IsValid m → cells_at e (kept es of n before) ≡ o
      → closed es of n (At (Some e) m ∷ before) ≡ set ∷ closed es of n before → conflicts_with es (of m) o ≡ []
  found-by n e m before set None valid h grew = opens m valid
  found-by n e m before set (Some b) valid h grew =
      let l : length (kept es of n (At (Some e) m ∷ before)) - n ≡ suc (length (kept es of n before) - n) =
      sym (closed-length es of n (At (Some e) m ∷ before)) ∙ ap length grew ∙ ap suc (closed-length es of n before) in
      let s = held-length es of n e m b before h in
      absurd (omega arith)

  pub closing-none : ClosingConflictsNot es of
  closing-none n (At None m) before set listed valid a = a.1
  closing-none n (At (Some e) m) before set listed valid a = a.1 ∙ found-by n e m before set (cells_at e (kept es of n before)) valid refl a.2

pub closing-conflicts-not : ClosingConflictsNot gps cells_of
closing-conflicts-not = closing-none gps cells_of opening-conflicts-not
