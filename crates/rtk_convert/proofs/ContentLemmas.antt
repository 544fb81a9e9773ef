-- What is kept is the content of the set of messages that came in time.
use Rattle.std.proofs.Common.{◌≡◌, ℕ, ◌<◌, zero, suc, inl, inr, ◌⊎◌, false, List, [], ◌∷◌, ◌++◌, map, length, None, Some, All, AllPairs, Contains, refl, sym, ap, subst, ◌∙◌, arith}
use Rattle.std.specs.Prelude.{slice_index_or}
use Rattle.std.proofs.lemmas.List.Elements.{All-cons, All-nil, All-head, All-tail, All-weaker}
use Rattle.std.proofs.lemmas.List.Kept.{AllPairs-cons}
use Rattle.rtk_obs.specs.declared.signal_cells.SignalEntry.{SignalEntry}
use Rattle.rtk_setup.specs.Setup.{cells_by}
use Rattle.rtk_collect.specs.Signals.{signals}
use Rattle.rtk_collect.specs.Arrival.{Arrival, At}
use Rattle.rtk_collect.specs.Accepted.{IsTaken, AmongCells, IsConsistent}
use Rattle.rtk_collect.specs.EpochSet.{EpochSetView, FirstIsBelow, EpochsFall}
use Rattle.rtk_collect.specs.Key.{key, Above, KeysRise}
use Rattle.rtk_collect.specs.Late.{late}
use Rattle.rtk_collect.specs.Laws.{HasEpoch, IsKept, CellsRise}
use Rattle.rtk_convert.specs.Headline.{CameInTime, EqualKeysCarryEqualBodies}
use Rattle.rtk_setup.specs.Setup.{SetupView}

-- ---- an element of a list

pub contains-first : {X : Type 0} (x y : X) (xs : List X) → x ≡ y → Contains (x ∷ xs) y
contains-first x y xs e = (zero, omega arith, e)

pub contains-later : {X : Type 0} (x y : X) (xs : List X) → Contains xs y → Contains (x ∷ xs) y
contains-later x y xs p = (suc p.0, (let lt = p.1 in omega arith), p.2)

contains-at : {X : Type 0} (x y : X) (xs : List X) (k : ℕ) → k < length (x ∷ xs) → slice_index_or (x ∷ xs) k y ≡ y → (x ≡ y) ⊎ Contains xs y
contains-at x y xs zero lt e = inl e
contains-at x y xs (suc k) lt e = inr (k, omega arith, e)

pub contains-cases : {X : Type 0} (x y : X) (xs : List X) → Contains (x ∷ xs) y → (x ≡ y) ⊎ Contains xs y
contains-cases x y xs p = contains-at x y xs p.0 p.1 p.2

pub contains-none : {X : Type 0} (y : X) → Contains [] y → ⊥
contains-none y p = let lt = p.1 in absurd (omega arith)

-- ---- cells and epochs

pub among-contains : (c : SignalEntry) (xs : List SignalEntry) → AmongCells c xs → Contains xs c
among-contains c [] p = absurd p
among-contains c (x ∷ xs) (inl e) = contains-first x c xs (sym e)
among-contains c (x ∷ xs) (inr p) = contains-later x c xs (among-contains c xs p)

pub contains-among : (c : SignalEntry) (xs : List SignalEntry) → Contains xs c → AmongCells c xs
contains-among c [] p = absurd (contains-none c p)
contains-among c (x ∷ xs) p = elim (contains-cases x c xs p) [ inl e ↦ inl (sym e) | inr more ↦ inr (contains-among c xs more) ]

pub has-contains : (e : ℕ) (xs : List (EpochSetView SignalEntry)) → HasEpoch e xs → Contains (map (λ (x : EpochSetView SignalEntry). x.epoch) xs) e
has-contains e [] p = absurd p
has-contains e (x ∷ xs) (inl q) = contains-first x.epoch e (map (λ (y : EpochSetView SignalEntry). y.epoch) xs) q
has-contains e (x ∷ xs) (inr p) = contains-later x.epoch e (map (λ (y : EpochSetView SignalEntry). y.epoch) xs) (has-contains e xs p)

pub contains-has : (e : ℕ) (xs : List (EpochSetView SignalEntry)) → Contains (map (λ (x : EpochSetView SignalEntry). x.epoch) xs) e → HasEpoch e xs
contains-has e [] p = absurd (contains-none e p)
contains-has e (x ∷ xs) p = elim (contains-cases x.epoch e (map (λ (y : EpochSetView SignalEntry). y.epoch) xs) p) [ inl q ↦ inl q | inr more ↦ inr (contains-has e xs more) ]

-- a cell stands in an epoch of a list
abbrev pub StandsIn : List (EpochSetView SignalEntry) → ℕ → SignalEntry → Type 0
StandsIn xs e c = (of : EpochSetView SignalEntry) × Contains xs of × (of.epoch ≡ e) × Contains of.cells c

pub kept-stands : (e : ℕ) (c : SignalEntry) (xs : List (EpochSetView SignalEntry)) → IsKept e c xs → StandsIn xs e c
kept-stands e c [] p = absurd p
kept-stands e c (x ∷ xs) (inl p) = (x, contains-first x x xs refl, p.0, among-contains c x.cells p.1)
kept-stands e c (x ∷ xs) (inr p) = let q = kept-stands e c xs p in (q.0, contains-later x q.0 xs q.1, q.2, q.3)

stands-at : (e : ℕ) (c : SignalEntry) (xs : List (EpochSetView SignalEntry)) (of : EpochSetView SignalEntry) → Contains xs of → of.epoch ≡ e → Contains of.cells c → IsKept e c xs
stands-at e c [] of p q r = absurd (contains-none of p)
stands-at e c (x ∷ xs) of p q r = elim (contains-cases x of xs p) [
  | inl same ↦ inl (ap (λ (y : EpochSetView SignalEntry). y.epoch) same ∙ q, contains-among c x.cells (subst (λ (y : EpochSetView SignalEntry). Contains y.cells c) (sym same) r))
  | inr more ↦ inr (stands-at e c xs of more q r)
]

pub stands-kept : (e : ℕ) (c : SignalEntry) (xs : List (EpochSetView SignalEntry)) → StandsIn xs e c → IsKept e c xs
stands-kept e c xs p = stands-at e c xs p.0 p.1 p.2 p.3

-- ---- epochs fall, and keys rise

below-all : (e : ℕ) (xs : List (EpochSetView SignalEntry)) → FirstIsBelow e xs → EpochsFall xs → All (λ (x : EpochSetView SignalEntry). x.epoch < e) xs
below-all e [] p fall = All-nil (λ (x : EpochSetView SignalEntry). x.epoch < e)
below-all e (x ∷ xs) p fall =
    let rest = below-all x.epoch xs fall.0 fall.1 in
    All-cons (λ (y : EpochSetView SignalEntry). y.epoch < e) x xs p (All-weaker (λ (y : EpochSetView SignalEntry). y.epoch < x.epoch) (λ (y : EpochSetView SignalEntry). y.epoch < e) (λ y lt. omega (arith, lt, p)) xs rest)

pub fall-pairs : (xs : List (EpochSetView SignalEntry)) → EpochsFall xs → AllPairs (λ (x y : EpochSetView SignalEntry). y.epoch < x.epoch) xs
fall-pairs [] fall = λ i j d below within. absurd (omega arith)
fall-pairs (x ∷ xs) fall = AllPairs-cons (λ (a b : EpochSetView SignalEntry). b.epoch < a.epoch) x xs (below-all x.epoch xs fall.0 fall.1) (fall-pairs xs fall.1)

pairs-tail : {X : Type 0} (R : X → X → Type 0) (x : X) (xs : List X) → AllPairs R (x ∷ xs) → AllPairs R xs
pairs-tail R x xs p = λ i j d below within. p (suc i) (suc j) d (omega arith) (omega arith)

pairs-first : {X : Type 0} (R : X → X → Type 0) (x y : X) (xs : List X) → AllPairs R (x ∷ y ∷ xs) → R x y
pairs-first R x y xs p = p 0 1 x (omega arith) (omega arith)

first-below : (x : EpochSetView SignalEntry) (xs : List (EpochSetView SignalEntry)) → AllPairs (λ (a b : EpochSetView SignalEntry). b.epoch < a.epoch) (x ∷ xs) → FirstIsBelow x.epoch xs
first-below x [] p = tt
first-below x (y ∷ ys) p = pairs-first (λ (a b : EpochSetView SignalEntry). b.epoch < a.epoch) x y ys p

pub pairs-fall : (xs : List (EpochSetView SignalEntry)) → AllPairs (λ (x y : EpochSetView SignalEntry). y.epoch < x.epoch) xs → EpochsFall xs
pairs-fall [] p = tt
pairs-fall (x ∷ xs) p = (first-below x xs p, pairs-fall xs (pairs-tail (λ (a b : EpochSetView SignalEntry). b.epoch < a.epoch) x xs p))

above-all : (k : ℕ) (xs : List SignalEntry) → Above signals k xs → KeysRise signals xs → All (λ (x : SignalEntry). k < key signals x) xs
above-all k [] p rise = All-nil (λ (x : SignalEntry). k < key signals x)
above-all k (x ∷ xs) p rise =
    let rest = above-all (key signals x) xs rise.0 rise.1 in
    All-cons (λ (y : SignalEntry). k < key signals y) x xs p (All-weaker (λ (y : SignalEntry). key signals x < key signals y) (λ (y : SignalEntry). k < key signals y) (λ y lt. omega (arith, lt, p)) xs rest)

rise-pairs : (xs : List SignalEntry) → KeysRise signals xs → AllPairs (λ (a b : SignalEntry). key signals a < key signals b) xs
rise-pairs [] rise = λ i j d below within. absurd (omega arith)
rise-pairs (x ∷ xs) rise = AllPairs-cons (λ (a b : SignalEntry). key signals a < key signals b) x xs (above-all (key signals x) xs rise.0 rise.1) (rise-pairs xs rise.1)

first-above : (x : SignalEntry) (xs : List SignalEntry) → AllPairs (λ (a b : SignalEntry). key signals a < key signals b) (x ∷ xs) → Above signals (key signals x) xs
first-above x [] p = tt
first-above x (y ∷ ys) p = pairs-first (λ (a b : SignalEntry). key signals a < key signals b) x y ys p

pairs-rise : (xs : List SignalEntry) → AllPairs (λ (a b : SignalEntry). key signals a < key signals b) xs → KeysRise signals xs
pairs-rise [] p = tt
pairs-rise (x ∷ xs) p = (first-above x xs p, pairs-rise xs (pairs-tail (λ (a b : SignalEntry). key signals a < key signals b) x xs p))

abbrev RiseIn : EpochSetView SignalEntry → Type 0
RiseIn x = AllPairs (λ (a b : SignalEntry). key signals a < key signals b) x.cells

pub cells-pairs : (xs : List (EpochSetView SignalEntry)) → CellsRise signals xs → All (λ (x : EpochSetView SignalEntry). AllPairs (λ (a b : SignalEntry). key signals a < key signals b) x.cells) xs
cells-pairs [] rise = All-nil RiseIn
cells-pairs (x ∷ xs) rise = All-cons RiseIn x xs (rise-pairs x.cells rise.0) (cells-pairs xs rise.1)

pub pairs-cells : (xs : List (EpochSetView SignalEntry)) → All (λ (x : EpochSetView SignalEntry). AllPairs (λ (a b : SignalEntry). key signals a < key signals b) x.cells) xs → CellsRise signals xs
pairs-cells [] p = tt
pairs-cells (x ∷ xs) p = (pairs-rise x.cells (All-head RiseIn x xs p), pairs-cells xs (All-tail RiseIn x xs p))

-- ---- the messages that came in time

pub taken-came : (s : SetupView) (a : Arrival) (arrivals : List Arrival) → IsTaken s.window a arrivals → CameInTime s arrivals a
taken-came s a [] p = absurd p
taken-came s a (x ∷ before) (inl p) = ([], before, ap (λ (y : Arrival). y ∷ before) p.1, subst (λ (y : Arrival). late s.window y before ≡ false) p.1 p.0)
taken-came s a (x ∷ before) (inr p) = let q = taken-came s a before p in (x ∷ q.0, q.1, ap (λ (xs : List Arrival). x ∷ xs) q.2, q.3)

taken-at : (s : SetupView) (a : Arrival) (later before : List Arrival) → late s.window a before ≡ false → IsTaken s.window a (later ++ a ∷ before)
taken-at s a [] before p = inl (p, refl)
taken-at s a (x ∷ later) before p = inr (taken-at s a later before p)

pub came-taken : (s : SetupView) (a : Arrival) (arrivals : List Arrival) → CameInTime s arrivals a → IsTaken s.window a arrivals
came-taken s a arrivals p = subst (λ (xs : List Arrival). IsTaken s.window a xs) (sym p.2) (taken-at s a p.0 p.1 p.3)

pub consistent : (s : SetupView) (arrivals : List Arrival) → EqualKeysCarryEqualBodies s (CameInTime s arrivals) → IsConsistent signals (cells_by s) s.window arrivals
consistent s arrivals good = record {
  cells = λ e c d p q same. good.cells e p.0 q.0 c d (taken-came s (At (Some e) p.0) arrivals p.1) (taken-came s (At (Some e) q.0) arrivals q.1)
      (among-contains c (cells_by s p.0) p.2) (among-contains d (cells_by s q.0) q.2) same;
  stations = λ m o p q same. good.stations m o (taken-came s (At None m) arrivals p) (taken-came s (At None o) arrivals q) same;
}
