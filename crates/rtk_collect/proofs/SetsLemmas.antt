-- What is kept of consistent arrivals depends on the set of those that came in time alone.
use Rattle.std.proofs.Common.{◌≡◌, ℕ, ◌<◌, List, [], ◌∷◌, Option, None, Some, refl, ap, sym, ◌∙◌, arith, inl, inr, subst}
use Rattle.std.proofs.lemmas.Bool.{cases_order, cases_Bool}
use Rattle.rtk_message.specs.declared.any_message.AnyMessage.{AnyMessage as Message}
use Rattle.rtk_collect.specs.Key.{key, KeysRise}
use Rattle.rtk_collect.specs.EpochSet.{EpochSetView, EpochsFall}
use Rattle.rtk_collect.specs.Arrival.{Arrival, At}
use Rattle.rtk_collect.specs.Late.{late}
use Rattle.rtk_collect.specs.Accepted.{kept, station, with_arrival, IsTaken, AmongCells, IsTakenCell, IsConsistent}
use Rattle.rtk_collect.specs.Laws.{HasEpoch, IsKept, CellsRise, KeptRise, OrderedAreSame, SetDecides}
use Rattle.rtk_collect.proofs.CellsLemmas.{with_cells-rises}
use Rattle.rtk_collect.proofs.ArrivalsLemmas.{kept-falls, with_arrival-new, with_arrival-below, with_arrival-same}
use Rattle.rtk_collect.proofs.MembersLemmas.{kept-are-taken}
use Rattle.rtk_collect.proofs.LateLemmas.{kept-late, kept-new}
use Rattle.rtk_collect.specs.Entries.{Entries}

among-above : {E S : Type 0} (es : Entries E S) (c x : E) (xs : List E) → KeysRise es (x ∷ xs) → AmongCells c xs → key es x < key es c
among-above es c x [] f m = absurd m
among-above {E = E} es c x (y ∷ ys) f m = elim m [
  | inl e ↦ subst (λ (t : E). key es x < key es t) (sym e) f.0
  | inr r ↦ let h : key es y < key es c = among-above es c y ys f.1 r in omega (arith, f.0)
]

tail-cells : {E S : Type 0} (es : Entries E S) (x y : E) (xs ys : List E) → KeysRise es (x ∷ xs) → x ≡ y → ((c : E) → AmongCells c (x ∷ xs) → AmongCells c (y ∷ ys)) → (c : E) → AmongCells c xs → AmongCells c ys
tail-cells es x y xs ys f e h c m = elim (h c (inr m)) [
  | inl q ↦ let l : key es x < key es c = among-above es c x xs f m in let k : key es c ≡ key es x = ap (key es) (q ∙ sym e) in absurd (omega arith)
  | inr r ↦ r
]

head-cells : {E S : Type 0} (es : Entries E S) (x y : E) (xs ys : List E) → KeysRise es (x ∷ xs) → KeysRise es (y ∷ ys) → AmongCells x (y ∷ ys) → AmongCells y (x ∷ xs) → x ≡ y
head-cells es x y xs ys f g m k = elim m [
  | inl e ↦ e
  | inr r ↦ elim k [
    | inl e ↦ sym e
    | inr s ↦ let a : key es y < key es x = among-above es x y ys g r in let b : key es x < key es y = among-above es y x xs f s in absurd (omega arith)
  ]
]

rises-same : {E S : Type 0} (es : Entries E S) (xs ys : List E) → KeysRise es xs → KeysRise es ys → ((c : E) → AmongCells c xs → AmongCells c ys) → ((c : E) → AmongCells c ys → AmongCells c xs) → xs ≡ ys
rises-same es [] [] f g h k = refl
rises-same es [] (y ∷ ys) f g h k = absurd (k y (inl refl))
rises-same es (x ∷ xs) [] f g h k = absurd (h x (inl refl))
rises-same es (x ∷ xs) (y ∷ ys) f g h k =
    let e : x ≡ y = head-cells es x y xs ys f g (h x (inl refl)) (k y (inl refl)) in
    let t : xs ≡ ys = rises-same es xs ys f.1 g.1 (tail-cells es x y xs ys f e h) (tail-cells es y x ys xs g (sym e) k) in
    ap (λ z. z ∷ xs) e ∙ ap (λ z. y ∷ z) t

has-below : {E : Type 0} (e : ℕ) (x : EpochSetView E) (xs : List (EpochSetView E)) → EpochsFall (x ∷ xs) → HasEpoch e xs → e < x.epoch
has-below e x [] f m = absurd m
has-below e x (y ∷ ys) f m = elim m [
  | inl q ↦ omega (arith, f.0)
  | inr r ↦ let h : e < y.epoch = has-below e y ys f.1 r in omega (arith, f.0)
]

kept-has : {E : Type 0} (e : ℕ) (c : E) (xs : List (EpochSetView E)) → IsKept e c xs → HasEpoch e xs
kept-has e c [] m = absurd m
kept-has e c (x ∷ xs) m = elim m [ inl h ↦ inl h.0 | inr r ↦ inr (kept-has e c xs r) ]

head-kept : {E : Type 0} (c : E) (x y : EpochSetView E) (ys : List (EpochSetView E)) → EpochsFall (y ∷ ys) → x.epoch ≡ y.epoch → IsKept x.epoch c (y ∷ ys) → AmongCells c y.cells
head-kept c x y ys f e m = elim m [
  | inl h ↦ h.1
  | inr r ↦ let l : x.epoch < y.epoch = has-below x.epoch y ys f (kept-has x.epoch c ys r) in absurd (omega arith)
]

tail-has : {E : Type 0} (x y : EpochSetView E) (xs ys : List (EpochSetView E)) → EpochsFall (x ∷ xs) → x.epoch ≡ y.epoch → ((e : ℕ) → HasEpoch e (x ∷ xs) → HasEpoch e (y ∷ ys)) → (e : ℕ) → HasEpoch e xs → HasEpoch e ys
tail-has x y xs ys f q h e m = elim (h e (inr m)) [
  | inl s ↦ let l : e < x.epoch = has-below e x xs f m in absurd (omega arith)
  | inr r ↦ r
]

tail-kept : {E : Type 0} (x y : EpochSetView E) (xs ys : List (EpochSetView E)) → EpochsFall (x ∷ xs) → x.epoch ≡ y.epoch → ((e : ℕ) (c : E) → IsKept e c (x ∷ xs) → IsKept e c (y ∷ ys)) → (e : ℕ) (c : E) → IsKept e c xs → IsKept e c ys
tail-kept x y xs ys f q h e c m = elim (h e c (inr m)) [
  | inl s ↦ let l : e < x.epoch = has-below e x xs f (kept-has e c xs m) in let s0 = s.0 in absurd (omega arith)
  | inr r ↦ r
]

same-first : {E : Type 0} (x y : EpochSetView E) (xs ys : List (EpochSetView E)) → EpochsFall (x ∷ xs) → EpochsFall (y ∷ ys) → HasEpoch x.epoch (y ∷ ys) → HasEpoch y.epoch (x ∷ xs) → x.epoch ≡ y.epoch
same-first x y xs ys f g m k = elim m [
  | inl e ↦ sym e
  | inr r ↦ elim k [
    | inl e ↦ e
    | inr s ↦ let a : x.epoch < y.epoch = has-below x.epoch y ys g r in let b : y.epoch < x.epoch = has-below y.epoch x xs f s in absurd (omega arith)
  ]
]

same-open : {E : Type 0} (x y : EpochSetView E) → x.epoch ≡ y.epoch → x.cells ≡ y.cells → x ≡ y
same-open x y e c = ap (λ t. record { epoch = t; cells = x.cells }) e ∙ ap (λ t. record { epoch = y.epoch; cells = t }) c

pub kept-same : {E S : Type 0} (es : Entries E S) → OrderedAreSame es
kept-same es [] [] f g r s h k u v = refl
kept-same es [] (y ∷ ys) f g r s h k u v = absurd (k y.epoch (inl refl))
kept-same es (x ∷ xs) [] f g r s h k u v = absurd (h x.epoch (inl refl))
kept-same es (x ∷ xs) (y ∷ ys) f g r s h k u v =
    let e : x.epoch ≡ y.epoch = same-first x y xs ys f g (h x.epoch (inl refl)) (k y.epoch (inl refl)) in
    let c : x.cells ≡ y.cells = rises-same es x.cells y.cells r.0 s.0 (λ z m. head-kept z x y ys g e (u x.epoch z (inl (refl, m)))) (λ z m. head-kept z y x xs f (sym e) (v y.epoch z (inl (refl, m)))) in
    let t : xs ≡ ys = kept-same es xs ys f.1 g.1 r.1 s.1 (tail-has x y xs ys f e h) (tail-has y x ys xs g (sym e) k) (tail-kept x y xs ys f e u) (tail-kept y x ys xs g (sym e) v) in
    ap (λ z. z ∷ xs) (same-open x y e c) ∙ ap (λ z. y ∷ z) t

arrival-rise : {E S : Type 0} (es : Entries E S) (e : ℕ) (cs : List E) (xs : List (EpochSetView E)) → CellsRise es xs → CellsRise es (with_arrival es e cs xs)
arrival-rise es e cs [] h = (with_cells-rises es cs [] tt, tt)
arrival-rise es e cs (y ∷ ys) h = elim (cases_order y.epoch e) [
  | inl same ↦ subst (CellsRise es) (sym (with_arrival-same es e cs y ys (sym same))) (with_cells-rises es cs y.cells h.0, h.1)
  | inr more ↦ elim more [
    | inl new ↦ subst (CellsRise es) (sym (with_arrival-new es e cs y ys new)) (with_cells-rises es cs [] tt, h)
    | inr below ↦ subst (CellsRise es) (sym (with_arrival-below es e cs y ys below)) (h.0, arrival-rise es e cs ys h.1)
  ]
]

pub kept-rise : {E S : Type 0} (es : Entries E S) (of : Message → List E) → KeptRise es of
kept-rise es of n [] = tt
kept-rise es of n (At None m ∷ before) = kept-rise es of n before
kept-rise es of n (At (Some e) m ∷ before) = elim (cases_Bool (late n (At (Some e) m) before)) [
  | inl over ↦ subst (CellsRise es) (sym (kept-late es of n e m before over)) (kept-rise es of n before)
  | inr fresh ↦ subst (CellsRise es) (sym (kept-new es of n e m before fresh)) (arrival-rise es e (of m) (kept es of n before) (kept-rise es of n before))
]

-- the same arrivals came in time, so the same cells did
cells-move : {E S : Type 0} (es : Entries E S) (of : Message → List E) (n e : ℕ) (c : E) (first second : List Arrival) → ((a : Arrival) → IsTaken n a first → IsTaken n a second) → IsTakenCell es of n e c first → IsTakenCell es of n e c second
cells-move es of n e c first second f t = (t.0, f (At (Some e) t.0) t.1, t.2)

epochs-move : {E S : Type 0} (es : Entries E S) (of : Message → List E) (n : ℕ) (first second : List Arrival) → ((a : Arrival) → IsTaken n a first → IsTaken n a second) → (e : ℕ) → HasEpoch e (kept es of n first) → HasEpoch e (kept es of n second)
epochs-move es of n first second f e h = let o = ((kept-are-taken es of n first).0 e).0 h in ((kept-are-taken es of n second).0 e).1 (o.0, f (At (Some e) o.0) o.1)

kept-move : {E S : Type 0} (es : Entries E S) (of : Message → List E) (n : ℕ) (first second : List Arrival) → IsConsistent es of n second → ((a : Arrival) → IsTaken n a first → IsTaken n a second) → (e : ℕ) (c : E) → IsKept e c (kept es of n first) → IsKept e c (kept es of n second)
kept-move es of n first second q f e c h = ((kept-are-taken es of n second).3 q).0 e c (cells-move es of n e c first second f ((kept-are-taken es of n first).1 e c h))

station-move : {E S : Type 0} (es : Entries E S) (of : Message → List E) (n k : ℕ) (m : Message) (first second : List Arrival) → IsConsistent es of n second → ((a : Arrival) → IsTaken n a first → IsTaken n a second) → station n k first ≡ Some m → station n k second ≡ Some m
station-move es of n k m first second q f h =
    let t = (kept-are-taken es of n first).2 m k h in
    ap (λ j. station n j second) (sym t.1) ∙ ((kept-are-taken es of n second).3 q).1 m (f (At None m) t.0)

stations-same : (x y : Option Message) → ((m : Message) → x ≡ Some m → y ≡ Some m) → ((m : Message) → y ≡ Some m → x ≡ Some m) → x ≡ y
stations-same None None f g = refl
stations-same (Some m) y f g = sym (f m refl)
stations-same None (Some m) f g = g m refl

pub set-decides : {E S : Type 0} (es : Entries E S) (of : Message → List E) → SetDecides es of
set-decides es of n first second p q same = (
  kept-same es (kept es of n first) (kept es of n second) (kept-falls es of n first) (kept-falls es of n second) (kept-rise es of n first) (kept-rise es of n second)
      (epochs-move es of n first second (λ a. (same a).0)) (epochs-move es of n second first (λ a. (same a).1))
      (kept-move es of n first second q (λ a. (same a).0)) (kept-move es of n second first p (λ a. (same a).1)),
  (λ k. stations-same (station n k first) (station n k second) (λ m. station-move es of n k m first second q (λ a. (same a).0)) (λ m. station-move es of n k m second first p (λ a. (same a).1))),
)
