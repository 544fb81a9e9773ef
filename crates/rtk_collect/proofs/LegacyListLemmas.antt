-- The cells of a 1004 that are kept as satellites or in a list, and those that are left of them.
use Rattle.std.proofs.Common.{◌≡◌, ℕ, ◌<◌, ◌*◌, ◌+◌, ◌==◌, Result, Ok, Err, OnOk, OnErr, Option, None, Some, IfSome, Bool, true, false, not, cond, List, [], ◌∷◌, ◌++◌, length, filter, All, inl, inr, refl, sym, ◌∙◌, ap, subst, arith}
use Rattle.std.specs.Prelude.{◌&&◌, ◌||◌}
use Rattle.std.specs.List.{list_any}
use Rattle.std.proofs.lemmas.List.{append-nil}
use Rattle.std.proofs.lemmas.List.Elements.{All-filter}
use Rattle.std.proofs.lemmas.Bool.{ne_eqb, eq-eqb, cases_eq}
use Rattle.rtk_message.specs.declared.obs1004.Satellite.{Satellite}
use Rattle.rtk_obs.specs.declared.cell.CellEntry.{CellEntry}
use Rattle.rtk_obs.specs.LegacyCells.{first_entries, cells_of_1004}
use Rattle.rtk_obs.specs.CellsLeft.{AreRisingSatellites, cells_left, has_cell}
use Rattle.rtk_obs.specs.Cell.{IsInRange, AreRising}
use Rattle.rtk_obs.specs.Code.{place_of}
use Rattle.rtk_obs.specs.declared.cell.CellSource.TheVariants.{Legacy}
use Rattle.rtk_obs.specs.declared.cell.CellSource.{CellSource}
use Rattle.rtk_collect.specs.Entries.{Entries}
use Rattle.rtk_collect.specs.Key.{key, Above, KeysRise}
use Rattle.rtk_collect.specs.Gps.{gps}
use Rattle.rtk_collect.specs.EpochSet.{AreKeptOf, AreLeftBeside, left_beside}
use Rattle.rtk_collect.specs.Steps.First.{AreFirst, spelled}
use Rattle.rtk_collect.proofs.EqualityLemmas.{place-less}
use Rattle.rtk_collect.proofs.RisingLemmas.{keys-rise}

pub none_of : {X : Type 0} (xs : List X) (n : ℕ) → n ≡ length xs → (n == 0) ≡ true → xs ≡ []
none_of [] n e h = refl
none_of (x ∷ xs) n e h = let f : (n == 0) ≡ false = ne_eqb n 0 (λ q. omega arith) in cc

-- with no satellites the list has all cells
pub spelled-none : {E : Type 0} (legacy : List Satellite → List E) (first : List Satellite) (xs : List E) → first ≡ [] → spelled legacy first xs ≡ xs
spelled-none legacy [] xs e = refl
spelled-none legacy (s ∷ ss) xs e = cc

-- and with an empty list the satellites have all
pub spelled-all : {E : Type 0} (legacy : List Satellite → List E) (first : List Satellite) (xs : List E) → 0 < length first → xs ≡ [] → spelled legacy first xs ≡ legacy first
spelled-all legacy [] xs h e = absurd (omega arith)
spelled-all legacy (s ∷ ss) xs h e = ap (λ t. legacy (s ∷ ss) ++ t) e ∙ append-nil (legacy (s ∷ ss))

-- all cells are left if none is known
pub all_left : {E S : Type 0} (es : Entries E S) (xs : List E) → left_beside es [] xs ≡ xs
all_left es [] = refl
all_left es (x ∷ xs) = ap (λ ys. x ∷ ys) (all_left es xs)

pub left-none : {E S : Type 0} (es : Entries E S) (xs left : List E) → AreLeftBeside es [] xs left → left ≡ xs
left-none es xs left h = elim h [
  | inl same ↦ same
  | inr less ↦ less ∙ all_left es xs
]

-- ---- cells that are left are kept as all are

module _ {E S : Type 0} (es : Entries E S) (InRange : E → Type 0) where
  above-rest : (k : ℕ) (x : E) (xs : List E) → k < key es x → Above es (key es x) xs → Above es k xs
  above-rest k x [] h a = tt
  above-rest k x (y ∷ ys) h a = omega arith

  above-if : (b : Bool) (k : ℕ) (x : E) (rest : List E) → k < key es x → Above es k rest → Above es k (cond b (x ∷ rest) rest)
  above-if true k x rest h a = h
  above-if false k x rest h a = a

  above-filter : (p : E → Bool) (k : ℕ) (xs : List E) → KeysRise es xs → Above es k xs → Above es k (filter p xs)
  above-filter p k [] r a = tt
  above-filter p k (x ∷ xs) r a = above-if (p x) k x (filter p xs) a (above-filter p k xs r.1 (above-rest k x xs a r.0))

  rises-if : (b : Bool) (x : E) (rest : List E) → Above es (key es x) rest → KeysRise es rest → KeysRise es (cond b (x ∷ rest) rest)
  rises-if true x rest a r = (a, r)
  rises-if false x rest a r = r

  rises-filter : (p : E → Bool) (xs : List E) → KeysRise es xs → KeysRise es (filter p xs)
  rises-filter p [] r = tt
  rises-filter p (x ∷ xs) r = rises-if (p x) x (filter p xs) (above-filter p (key es x) xs r.1 r.0) (rises-filter p xs r.1)

  kept-filter : (s : CellSource) (p : E → Bool) (xs : List E) → AreKeptOf es InRange s xs → AreKeptOf es InRange s (filter p xs)
  kept-filter s p xs k = record {
    rises = rises-filter p xs k.rises;
    range = All-filter p InRange xs k.range;
    kind = All-filter p (λ (c : E). (es.cell c).source ≡ s) xs k.kind;
  }

  pub kept-left : (s : CellSource) (known xs left : List E) → AreKeptOf es InRange s xs → AreLeftBeside es known xs left → AreKeptOf es InRange s left
  kept-left s known xs left k h = elim h [
    | inl same ↦ subst (AreKeptOf es InRange s) (sym same) k
    | inr less ↦ subst (AreKeptOf es InRange s) (sym less) (kept-filter s (λ (c : E). not (list_any (λ (x : E). es.place x == es.place c) known)) xs k)
  ]

-- cells after a call that takes others in their place, or leaves them
pub either-taken : {X T F : Type 0} (r : Result T F) (P : List X → Type 0) (x a b : List X) → OnOk r (x ≡ a) → OnErr r (x ≡ b) → P a → P b → P x
either-taken (Ok v) P x a b h e p q = subst P (sym h) p
either-taken (Err d) P x a b h e p q = subst P (sym e) q

-- ---- the satellites of a first 1004

some-satellites : (ss : List Satellite) → 0 < length (cells_of_1004 ss) → 0 < length ss
unfolding first_entries
some-satellites [] h = absurd (omega arith)
some-satellites (s ∷ ss) h = omega arith

pub first-if : {X : Type 0} (now : X → List Satellite) (o : Option X) → IfSome o (λ s. AreRisingSatellites (now s)) → IfSome o (λ s. AreRising (cells_of_1004 (now s)))
    → IfSome o (λ s. All IsInRange (cells_of_1004 (now s))) → IfSome o (λ s. All (λ e. e.cell.source ≡ Legacy) (cells_of_1004 (now s))) → IfSome o (λ s. 0 < length (cells_of_1004 (now s)))
    → IfSome o (λ s. AreFirst gps IsInRange cells_of_1004 (now s))
first-if now None rise cells range kind some = tt
first-if now (Some s) rise cells range kind some = record {
  rise = rise;
  present = some-satellites (now s) some;
  kept = record { rises = keys-rise (cells_of_1004 (now s)) cells; range = range; kind = kind };
  some = some;
}

-- ---- cells of GPS

both-is : (a b p q : ℕ) → p < 16 → q < 16 → ((a == b) && (p == q)) ≡ (a * 16 + p == b * 16 + q)
both-is a b p q h k = elim (cases_eq a b) [
  | inl one ↦ elim (cases_eq p q) [
    | inl two ↦ rw (eq-eqb a b one, eq-eqb p q two, eq-eqb (a * 16 + p) (b * 16 + q) (omega arith)) refl
    | inr other ↦ rw (eq-eqb a b one, ne_eqb p q other, ne_eqb (a * 16 + p) (b * 16 + q) (λ e. other (omega arith))) refl
  ]
  | inr other ↦ rw (ne_eqb a b other, ne_eqb (a * 16 + p) (b * 16 + q) (λ e. other (omega arith))) refl
]

has-is : (c : CellEntry) (known : List CellEntry) → has_cell known c.satellite c.code ≡ list_any (λ (x : CellEntry). gps.place x == gps.place c) known
has-is c [] = refl
has-is c (x ∷ xs) =
    ap (λ (b : Bool). b || has_cell xs c.satellite c.code) (both-is x.satellite c.satellite (place_of x.code) (place_of c.code) (place-less x.code) (place-less c.code))
    ∙ ap (λ (b : Bool). (gps.place x == gps.place c) || b) (has-is c xs)

-- the cells that are left by satellite and code are left by their numbers
pub left-is : (known xs : List CellEntry) → cells_left known xs ≡ left_beside gps known xs
left-is known [] = refl
left-is known (x ∷ xs) =
    ap (λ (b : Bool). cond (not b) (x ∷ cells_left known xs) (cells_left known xs)) (has-is x known)
    ∙ ap (λ (ys : List CellEntry). cond (not (list_any (λ (k : CellEntry). gps.place k == gps.place x) known)) (x ∷ ys) ys) (left-is known xs)
