use Rattle.std.proofs.Common.{◌≡◌, ◌≢◌, ℕ, zero, suc, ◌<◌, ◌≤◌, Bool, true, false, cond, List, [], ◌∷◌, ◌++◌, length, get_or, set, take, drop, None, Some, refl, ap, sym, ◌∙◌, arith, inl, inr}
use Rattle.std.specs.Prelude.{nat_lt, nat_le, if◌then◌else◌, min}
use Rattle.std.proofs.lemmas.Bool.{lt-ltb, le-ltb, le-leb, lt-leb, cases_order, cases_lt, eq-eqb, ne_eqb, cases_eq}
use Rattle.std.proofs.lemmas.List.{append-nil}
use Rattle.std.proofs.lemmas.List.Sums.{sum_by-cons}
use Rattle.std.specs.List.{insert}
use Rattle.std.specs.Prelude.{◌&&◌}
use Rattle.rtk_message.specs.declared.any_message.AnyMessage.{AnyMessage as Message}
use Rattle.rtk_collect.specs.EpochSet.{EpochSetView, joined, FirstIsBelow, EpochsFall}
use Rattle.rtk_collect.specs.Arrival.{Arrival, At}
use Rattle.rtk_collect.specs.Late.{with_epoch, epochs, greater, late}
use Rattle.rtk_collect.specs.Accepted.{no_cells, with_arrival, kept, cells_at}
use Rattle.rtk_collect.specs.Laws.{GreaterOpens, LesserJoinsOthers, SameJoins, KeptFall}
use Rattle.rtk_collect.specs.Steps.OrderedPlaces.{leading}
use Rattle.rtk_collect.specs.Entries.{Entries}

-- an epoch with the cells of one message
abbrev pub opened : {E S : Type 0} (es : Entries E S) → ℕ → List E → EpochSetView E
opened es e cells = joined es cells (no_cells e)

abbrev pub keys : {E : Type 0} → List (EpochSetView E) → List ℕ
keys [] = []
keys (x ∷ xs) = x.epoch ∷ keys xs

abbrev pub BelowN : ℕ → List ℕ → Type 0
BelowN e [] = Unit {0}
BelowN e (x ∷ xs) = x < e

abbrev pub FallsN : List ℕ → Type 0
FallsN [] = Unit {0}
FallsN (x ∷ xs) = BelowN x xs × FallsN xs

abbrev pub leadingN : ℕ → List ℕ → ℕ
leadingN e [] = 0
leadingN e (x ∷ xs) = if nat_lt e x then suc (leadingN e xs) else 0

-- with_epoch by its three cases
pub with_epoch-new : (e x : ℕ) (xs : List ℕ) → x < e → with_epoch e (x ∷ xs) ≡ e ∷ x ∷ xs
with_epoch-new e x xs h = rw (lt-ltb x e h) refl

pub with_epoch-below : (e x : ℕ) (xs : List ℕ) → e < x → with_epoch e (x ∷ xs) ≡ x ∷ with_epoch e xs
with_epoch-below e x xs h = grind (arith, lt-ltb, le-ltb)

pub with_epoch-same : (e x : ℕ) (xs : List ℕ) → e ≡ x → with_epoch e (x ∷ xs) ≡ x ∷ xs
with_epoch-same e x xs h = grind (arith, lt-ltb, le-ltb)

pub with_epoch-under : (e x : ℕ) (xs : List ℕ) → e < x → BelowN x xs → BelowN x (with_epoch e xs)
with_epoch-under e x [] h b = h
with_epoch-under e x (y ∷ ys) h b = elim (cases_order y e) [
  | inl same ↦ rw (with_epoch-same e y ys (sym same)) b
  | inr more ↦ elim more [
    | inl new ↦ rw (with_epoch-new e y ys new) h
    | inr below ↦ rw (with_epoch-below e y ys below) b
  ]
]

pub with_epoch-falls : (e : ℕ) (xs : List ℕ) → FallsN xs → FallsN (with_epoch e xs)
with_epoch-falls e [] h = (tt, tt)
with_epoch-falls e (x ∷ xs) h = elim (cases_order x e) [
  | inl same ↦ rw (with_epoch-same e x xs (sym same)) h
  | inr more ↦ elim more [
    | inl new ↦ rw (with_epoch-new e x xs new) (new, h)
    | inr below ↦ rw (with_epoch-below e x xs below) (with_epoch-under e x xs below h.0, with_epoch-falls e xs h.1)
  ]
]

pub with_arrival-new : {E S : Type 0} (es : Entries E S) → GreaterOpens es
with_arrival-new es e cs x xs h = rw (lt-ltb x.epoch e h) refl

pub with_arrival-below : {E S : Type 0} (es : Entries E S) → LesserJoinsOthers es
with_arrival-below es e cs x xs h = rw (le-ltb x.epoch e (omega arith), lt-ltb e x.epoch h) refl

pub with_arrival-same : {E S : Type 0} (es : Entries E S) → SameJoins es
with_arrival-same es e cs x xs h = rw (le-ltb x.epoch e (omega arith), le-ltb e x.epoch (omega arith)) refl

pub keys-with_arrival : {E S : Type 0} (es : Entries E S) (e : ℕ) (cs : List E) (xs : List (EpochSetView E)) → keys (with_arrival es e cs xs) ≡ with_epoch e (keys xs)
keys-with_arrival es e cs [] = refl
keys-with_arrival es e cs (x ∷ xs) = elim (cases_order x.epoch e) [
  | inl same ↦ rw (with_arrival-same es e cs x xs (sym same), with_epoch-same e x.epoch (keys xs) (sym same)) refl
  | inr more ↦ elim more [
    | inl new ↦ rw (with_arrival-new es e cs x xs new, with_epoch-new e x.epoch (keys xs) new) refl
    | inr below ↦ rw (with_arrival-below es e cs x xs below, with_epoch-below e x.epoch (keys xs) below) (ap (λ t. x.epoch ∷ t) (keys-with_arrival es e cs xs))
  ]
]

pub leadingN-take : (n e : ℕ) (xs : List ℕ) → leadingN e (take n xs) ≡ min n (leadingN e xs)
leadingN-take zero e xs = grind arith
leadingN-take (suc n) e [] = grind arith
leadingN-take (suc n) e (x ∷ xs) = grind (arith, leadingN-take n e xs)

pub leadingN-keys : {E : Type 0} (e : ℕ) (xs : List (EpochSetView E)) → leadingN e (keys xs) ≡ leading e xs
leadingN-keys e [] = refl
leadingN-keys e (x ∷ xs) = rw (leadingN-keys e xs) refl

pub take-take-same : {X : Type 0} (n : ℕ) (xs : List X) → take n (take n xs) ≡ take n xs
take-take-same zero xs = refl
take-take-same (suc n) [] = refl
take-take-same (suc n) (x ∷ xs) = ap (λ t. x ∷ t) (take-take-same n xs)

pub drop-take-same : {X : Type 0} (n : ℕ) (xs : List X) → drop n (take n xs) ≡ []
drop-take-same zero xs = refl
drop-take-same (suc n) [] = refl
drop-take-same (suc n) (x ∷ xs) = drop-take-same n xs

pub drop-cons-take : {X : Type 0} (n : ℕ) (x : X) (xs : List X) → drop n (x ∷ xs) ≡ drop n (x ∷ take n xs) ++ drop n xs
drop-cons-take zero x xs = refl
drop-cons-take (suc n) x [] = sym (append-nil _)
drop-cons-take (suc n) x (y ∷ ys) = drop-cons-take n y ys

pub take-cons-take : {X : Type 0} (n : ℕ) (x : X) (xs : List X) → take n (x ∷ take n xs) ≡ take n (x ∷ xs)
take-cons-take zero x xs = refl
take-cons-take (suc n) x [] = refl
take-cons-take (suc n) x (y ∷ ys) = ap (λ t. x ∷ t) (take-cons-take n y ys)

pub take-with_epoch : (n e : ℕ) (xs : List ℕ) → take n (with_epoch e xs) ≡ take n (with_epoch e (take n xs))
take-with_epoch zero e xs = refl
take-with_epoch (suc n) e [] = refl
take-with_epoch (suc n) e (x ∷ xs) = elim (cases_order x e) [
  | inl same ↦ rw (with_epoch-same e x xs (sym same), with_epoch-same e x (take n xs) (sym same)) (ap (λ t. x ∷ t) (sym (take-take-same n xs)))
  | inr more ↦ elim more [
    | inl new ↦ rw (with_epoch-new e x xs new, with_epoch-new e x (take n xs) new) (ap (λ t. e ∷ t) (sym (take-cons-take n x xs)))
    | inr below ↦ rw (with_epoch-below e x xs below, with_epoch-below e x (take n xs) below) (ap (λ t. x ∷ t) (take-with_epoch n e xs))
  ]
]

pub keys-take : {E : Type 0} (n : ℕ) (xs : List (EpochSetView E)) → keys (take n xs) ≡ take n (keys xs)
keys-take zero xs = refl
keys-take (suc n) [] = refl
keys-take (suc n) (x ∷ xs) = ap (λ t. x.epoch ∷ t) (keys-take n xs)

-- a late epoch changes nothing among the greatest
pub take-with_epoch-late : (n e : ℕ) (xs : List ℕ) → n ≤ leadingN e xs → take n (with_epoch e xs) ≡ take n xs
take-with_epoch-late zero e xs h = refl
take-with_epoch-late (suc n) e [] h = grind arith
take-with_epoch-late (suc n) e (x ∷ xs) h = elim (cases_lt e x) [
  | inl below ↦ rw (with_epoch-below e x xs below) (ap (λ t. x ∷ t) (take-with_epoch-late n e xs (grind arith)))
  | inr not_below ↦ grind arith
]

pub epochs-fall : (arrivals : List Arrival) → FallsN (epochs arrivals)
epochs-fall [] = tt
epochs-fall (At None m ∷ before) = epochs-fall before
epochs-fall (At (Some e) m ∷ before) = with_epoch-falls e (epochs before) (epochs-fall before)

pub greater-one : (e x : ℕ) (xs : List ℕ) → e < x → greater (Some e) (x ∷ xs) ≡ suc (greater (Some e) xs)
greater-one e x xs h = sum_by-cons (λ y. cond (nat_lt e y) 1 0) x xs ∙ rw (lt-ltb e x h) (omega arith)

pub greater-none : (e x : ℕ) (xs : List ℕ) → FallsN (x ∷ xs) → x ≤ e → greater (Some e) (x ∷ xs) ≡ 0
greater-none e x [] f h = grind arith
greater-none e x (y ∷ ys) f h = grind (arith, greater-none e y ys f.1)

-- in epochs that fall, the greater ones are the first
pub greater-leading : (e : ℕ) (xs : List ℕ) → FallsN xs → greater (Some e) xs ≡ leadingN e xs
greater-leading e [] f = refl
greater-leading e (x ∷ xs) f = elim (cases_lt e x) [
  | inl below ↦ greater-one e x xs below ∙ ap suc (greater-leading e xs f.1) ∙ rw (lt-ltb e x below) refl
  | inr not_below ↦ rw (greater-none e x xs f not_below, le-ltb e x not_below) refl
]

pub and-true : (b : Bool) → (b && true) ≡ b
and-true true = refl
and-true false = refl

-- whether an observation is late, from the greatest epochs alone
pub late-leading : (n e : ℕ) (m : Message) (before : List Arrival) → late n (At (Some e) m) before ≡ nat_le n (leadingN e (epochs before))
late-leading n e m before = and-true (nat_le n (greater (Some e) (epochs before))) ∙ ap (nat_le n) (greater-leading e (epochs before) (epochs-fall before))

pub late-true : (n e : ℕ) (m : Message) (before : List Arrival) → n ≤ leadingN e (epochs before) → late n (At (Some e) m) before ≡ true
late-true n e m before h = late-leading n e m before ∙ le-leb _ _ h

pub late-false : (n e : ℕ) (m : Message) (before : List Arrival) → leadingN e (epochs before) < n → late n (At (Some e) m) before ≡ false
late-false n e m before h = late-leading n e m before ∙ lt-leb _ _ h

pub is-late : {E S : Type 0} (es : Entries E S) (of : Message → List E) (n e : ℕ) (m : Message) (before : List Arrival) → n ≤ leadingN e (epochs before) → kept es of n (At (Some e) m ∷ before) ≡ kept es of n before
is-late es of n e m before h = ap (λ (b : Bool). if b then kept es of n before else with_arrival es e (of m) (kept es of n before)) (late-true n e m before h)

pub is-open : {E S : Type 0} (es : Entries E S) (of : Message → List E) (n e : ℕ) (m : Message) (before : List Arrival) → leadingN e (epochs before) < n → kept es of n (At (Some e) m ∷ before) ≡ with_arrival es e (of m) (kept es of n before)
is-open es of n e m before h = ap (λ (b : Bool). if b then kept es of n before else with_arrival es e (of m) (kept es of n before)) (late-false n e m before h)

-- the greatest epochs of the arrivals are those that are kept
pub same_greatest : {E S : Type 0} (es : Entries E S) (of : Message → List E) (n : ℕ) (arrivals : List Arrival) → take n (keys (kept es of n arrivals)) ≡ take n (epochs arrivals)
same_greatest es of n [] = refl
same_greatest es of n (At None m ∷ before) = same_greatest es of n before
same_greatest es of n (At (Some e) m ∷ before) = elim (cases_lt (leadingN e (epochs before)) n) [
  | inl fresh ↦ rw (is-open es of n e m before fresh, keys-with_arrival es, take-with_epoch n e (keys (kept es of n before)), same_greatest es of n before) (sym (take-with_epoch n e (epochs before)))
  | inr over ↦ rw (is-late es of n e m before over) (same_greatest es of n before ∙ sym (take-with_epoch-late n e (epochs before) over))
]

pub with_arrival-under : {E S : Type 0} (es : Entries E S) (e : ℕ) (cs : List E) (x : EpochSetView E) (xs : List (EpochSetView E)) → e < x.epoch → FirstIsBelow x.epoch xs → FirstIsBelow x.epoch (with_arrival es e cs xs)
with_arrival-under es e cs x [] h b = h
with_arrival-under es e cs x (y ∷ ys) h b = elim (cases_order y.epoch e) [
  | inl same ↦ rw (with_arrival-same es e cs y ys (sym same)) b
  | inr more ↦ elim more [
    | inl new ↦ rw (with_arrival-new es e cs y ys new) h
    | inr below ↦ rw (with_arrival-below es e cs y ys below) b
  ]
]

pub with_arrival-falls : {E S : Type 0} (es : Entries E S) (e : ℕ) (cs : List E) (xs : List (EpochSetView E)) → EpochsFall xs → EpochsFall (with_arrival es e cs xs)
with_arrival-falls es e cs [] h = (tt, tt)
with_arrival-falls es e cs (x ∷ xs) h = elim (cases_order x.epoch e) [
  | inl same ↦ rw (with_arrival-same es e cs x xs (sym same)) h
  | inr more ↦ elim more [
    | inl new ↦ rw (with_arrival-new es e cs x xs new) (new, h)
    | inr below ↦ rw (with_arrival-below es e cs x xs below) (with_arrival-under es e cs x xs below h.0, with_arrival-falls es e cs xs h.1)
  ]
]

pub kept-falls : {E S : Type 0} (es : Entries E S) (of : Message → List E) → KeptFall es of
kept-falls es of n [] = tt
kept-falls es of n (At None m ∷ before) = kept-falls es of n before
kept-falls es of n (At (Some e) m ∷ before) = elim (cases_lt (leadingN e (epochs before)) n) [
  | inl fresh ↦ rw (is-open es of n e m before fresh) (with_arrival-falls es e (of m) (kept es of n before) (kept-falls es of n before))
  | inr over ↦ rw (is-late es of n e m before over) (kept-falls es of n before)
]

pub take-with_arrival : {E S : Type 0} (es : Entries E S) (n e : ℕ) (cs : List E) (xs : List (EpochSetView E)) → take n (with_arrival es e cs xs) ≡ take n (with_arrival es e cs (take n xs))
take-with_arrival es zero e cs xs = refl
take-with_arrival es (suc n) e cs [] = refl
take-with_arrival es (suc n) e cs (x ∷ xs) = elim (cases_order x.epoch e) [
  | inl same ↦ rw (with_arrival-same es e cs x xs (sym same), with_arrival-same es e cs x (take n xs) (sym same)) (ap (λ t. joined es cs x ∷ t) (sym (take-take-same n xs)))
  | inr more ↦ elim more [
    | inl new ↦ rw (with_arrival-new es e cs x xs new, with_arrival-new es e cs x (take n xs) new) (ap (λ t. opened es e cs ∷ t) (sym (take-cons-take n x xs)))
    | inr below ↦ rw (with_arrival-below es e cs x xs below, with_arrival-below es e cs x (take n xs) below) (ap (λ t. x ∷ t) (take-with_arrival es n e cs xs))
  ]
]

pub drop-with_arrival : {E S : Type 0} (es : Entries E S) (n e : ℕ) (cs : List E) (xs : List (EpochSetView E)) → leading e xs < n → drop n (with_arrival es e cs xs) ≡ drop n (with_arrival es e cs (take n xs)) ++ drop n xs
drop-with_arrival es zero e cs xs h = grind arith
drop-with_arrival es (suc n) e cs [] h = sym (append-nil _)
drop-with_arrival es (suc n) e cs (x ∷ xs) h = elim (cases_order x.epoch e) [
  | inl same ↦ rw (with_arrival-same es e cs x xs (sym same), with_arrival-same es e cs x (take n xs) (sym same)) (rw (drop-take-same n xs) refl)
  | inr more ↦ elim more [
    | inl new ↦ rw (with_arrival-new es e cs x xs new, with_arrival-new es e cs x (take n xs) new) (drop-cons-take n x xs)
    | inr below ↦ rw (with_arrival-below es e cs x xs below, with_arrival-below es e cs x (take n xs) below) (drop-with_arrival es n e cs xs (let q = rw (lt-ltb e x.epoch below) at h in omega arith))
  ]
]

-- the epochs that are greater than one, from what is held

pub leading-sets : {E S : Type 0} (es : Entries E S) (of : Message → List E) (n e : ℕ) (sets : List (EpochSetView E)) (arrivals : List Arrival) → sets ≡ take n (kept es of n arrivals) → leading e sets ≡ min n (leadingN e (epochs arrivals))
leading-sets es of n e sets arrivals h = rw (h, ← leadingN-keys e (take n (kept es of n arrivals)), keys-take, same_greatest es of n arrivals) (leadingN-take n e (epochs arrivals))

pub sets-late : {E S : Type 0} (es : Entries E S) (of : Message → List E) (n e : ℕ) (sets : List (EpochSetView E)) (before : List Arrival) → sets ≡ take n (kept es of n before) → n ≤ leading e sets → n ≤ leadingN e (epochs before)
sets-late es of n e sets before h l = grind (arith, leading-sets es of n e sets before h)

pub sets-open : {E S : Type 0} (es : Entries E S) (of : Message → List E) (n e : ℕ) (sets : List (EpochSetView E)) (before : List Arrival) → sets ≡ take n (kept es of n before) → leading e sets < n → leadingN e (epochs before) < n
sets-open es of n e sets before h l = grind (arith, leading-sets es of n e sets before h)

-- the place of an epoch

pub below-none : {E : Type 0} (e : ℕ) (x : EpochSetView E) (xs : List (EpochSetView E)) → EpochsFall (x ∷ xs) → x.epoch < e → cells_at e (x ∷ xs) ≡ None
below-none e x [] f h = rw (ne_eqb e x.epoch (λ q. omega arith)) refl
below-none e x (y ∷ ys) f h = rw (ne_eqb e x.epoch (λ q. omega arith)) (below-none e y ys f.1 (omega (arith, f.0)))

pub found-cells : {E : Type 0} (e : ℕ) (d : EpochSetView E) (xs : List (EpochSetView E)) → leading e xs < length xs → (get_or xs (leading e xs) d).epoch ≡ e → cells_at e xs ≡ Some (get_or xs (leading e xs) d).cells
found-cells e d [] l h = grind arith
found-cells e d (x ∷ xs) l h = elim (cases_lt e x.epoch) [
  | inl below ↦ rw (lt-ltb e x.epoch below, ne_eqb e x.epoch (λ q. omega arith)) (found-cells e d xs (let q = rw (lt-ltb e x.epoch below) at l in omega arith) (rw (lt-ltb e x.epoch below) at h))
  | inr over ↦ let q = rw (le-ltb e x.epoch over) at h in rw (le-ltb e x.epoch over, eq-eqb e x.epoch (sym q)) refl
]

pub absent-cells : {E : Type 0} (e : ℕ) (d : EpochSetView E) (xs : List (EpochSetView E)) → EpochsFall xs → (leading e xs < length xs → (get_or xs (leading e xs) d).epoch ≢ e) → cells_at e xs ≡ None
absent-cells e d [] f h = refl
absent-cells e d (x ∷ xs) f h = elim (cases_order e x.epoch) [
  | inl same ↦ absurd (rw (le-ltb e x.epoch (omega arith)) at h (omega arith) (sym same))
  | inr more ↦ elim more [
    | inl below ↦ rw (ne_eqb e x.epoch (λ q. omega arith)) (absent-cells e d xs f.1 (λ l. rw (lt-ltb e x.epoch below) at h (omega arith)))
    | inr over ↦ below-none e x xs f over
  ]
]

pub cells_at-take : {E : Type 0} (n e : ℕ) (b : List E) (xs : List (EpochSetView E)) → cells_at e (take n xs) ≡ Some b → cells_at e xs ≡ Some b
cells_at-take zero e b xs h = cc
cells_at-take (suc n) e b [] h = h
cells_at-take (suc n) e b (x ∷ xs) h = elim (cases_eq e x.epoch) [
  | inl same ↦ rw (eq-eqb e x.epoch same) (rw (eq-eqb e x.epoch same) at h)
  | inr other ↦ rw (ne_eqb e x.epoch other) (cells_at-take n e b xs (rw (ne_eqb e x.epoch other) at h))
]

pub cells_at-none : {E : Type 0} (n e : ℕ) (xs : List (EpochSetView E)) → EpochsFall xs → leading e xs < n → cells_at e (take n xs) ≡ None → cells_at e xs ≡ None
cells_at-none zero e xs f l h = grind arith
cells_at-none (suc n) e [] f l h = refl
cells_at-none (suc n) e (x ∷ xs) f l h = elim (cases_order e x.epoch) [
  | inl same ↦ let q = rw (eq-eqb e x.epoch same) at h in cc
  | inr more ↦ elim more [
    | inl below ↦ rw (ne_eqb e x.epoch (λ q. omega arith)) (cells_at-none n e xs f.1 (let q = rw (lt-ltb e x.epoch below) at l in omega arith) (rw (ne_eqb e x.epoch (λ q. omega arith)) at h))
    | inr over ↦ below-none e x xs f over
  ]
]

-- cells join the epoch that is there
pub with_arrival-found : {E S : Type 0} (es : Entries E S) (e : ℕ) (cs : List E) (d : EpochSetView E) (xs : List (EpochSetView E)) → leading e xs < length xs → (get_or xs (leading e xs) d).epoch ≡ e
    → with_arrival es e cs xs ≡ set xs (leading e xs) (joined es cs (get_or xs (leading e xs) d))
with_arrival-found es e cs d [] l h = grind arith
with_arrival-found es e cs d (x ∷ xs) l h = elim (cases_lt e x.epoch) [
  | inl below ↦ rw (with_arrival-below es e cs x xs below, lt-ltb e x.epoch below) (ap (λ t. x ∷ t) (with_arrival-found es e cs d xs (let q = rw (lt-ltb e x.epoch below) at l in omega arith) (rw (lt-ltb e x.epoch below) at h)))
  | inr over ↦ let q = rw (le-ltb e x.epoch over) at h in rw (with_arrival-same es e cs x xs (sym q), le-ltb e x.epoch over) refl
]

pub with_arrival-absent : {E S : Type 0} (es : Entries E S) (e : ℕ) (cs : List E) (xs : List (EpochSetView E)) → cells_at e xs ≡ None → with_arrival es e cs xs ≡ insert xs (leading e xs) (opened es e cs)
with_arrival-absent es e cs [] h = refl
with_arrival-absent es e cs (x ∷ xs) h = elim (cases_order e x.epoch) [
  | inl same ↦ let q = rw (eq-eqb e x.epoch same) at h in cc
  | inr more ↦ elim more [
    | inl below ↦ rw (with_arrival-below es e cs x xs below, lt-ltb e x.epoch below) (ap (λ t. x ∷ t) (with_arrival-absent es e cs xs (rw (ne_eqb e x.epoch (λ q. omega arith)) at h)))
    | inr over ↦ rw (with_arrival-new es e cs x xs over, le-ltb e x.epoch (omega arith)) refl
  ]
]

-- no new cell: nothing changes
pub set-same : {E : Type 0} (i : ℕ) (d : EpochSetView E) (xs : List (EpochSetView E)) → set xs i (get_or xs i d) ≡ xs
set-same zero d [] = refl
set-same (suc i) d [] = refl
set-same zero d (x ∷ xs) = refl
set-same (suc i) d (x ∷ xs) = ap (λ t. x ∷ t) (set-same i d xs)
