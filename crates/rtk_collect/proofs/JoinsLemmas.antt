-- The closed epochs, and an observation that joins the held ones.
use Rattle.std.proofs.Common.{◌≡◌, ℕ, zero, suc, ◌+◌, ◌-◌, ◌<◌, ◌≤◌, Bool, true, false, List, [], ◌∷◌, ◌++◌, length, get_or, take, drop, Option, None, Some, refl, ap, sym, ◌∙◌, arith, inl, inr, is_gt, nat_cmp}
use Rattle.std.specs.Prelude.{nat_le, filter, option_to_list, min}
use Rattle.std.proofs.lemmas.Bool.{lt-ltb, le-ltb, le-leb, lt-leb, cases_lt}
use Rattle.std.specs.List.Sorted.{IsPartitionedBy}
use Rattle.std.proofs.lemmas.Bool.Decides.{nat_tests}
use Rattle.std.proofs.lemmas.Grind.{common_steps}
use Rattle.std.proofs.Math.Seq.{drop-nil, take-append_seam, drop-append_seam}
use Rattle.rtk_message.specs.declared.any_message.AnyMessage.{AnyMessage as Message}
use Rattle.rtk_collect.specs.EpochSet.{EpochSetView, EpochsFall}
use Rattle.rtk_collect.specs.Arrival.{Arrival, At}
use Rattle.rtk_collect.specs.Late.{epochs, greater, late}
use Rattle.rtk_collect.specs.Accepted.{no_cells, with_arrival, kept, cells_at, closed}
use Rattle.rtk_collect.specs.Laws.{ClosedAreRest}
use Rattle.rtk_collect.specs.Steps.OrderedPlaces.{leading}
use Rattle.rtk_collect.proofs.ArrivalsLemmas.{keys, leadingN, leadingN-take, leadingN-keys, keys-take, epochs-fall, greater-leading, late-true, late-false, is-late, is-open, same_greatest, kept-falls, take-with_arrival, drop-with_arrival, leading-sets, sets-late, sets-open, cells_at-take, cells_at-none}
use Rattle.rtk_collect.specs.Entries.{Entries}

-- the closed epochs are the ones after the n greatest

pub under : {E : Type 0} (x : EpochSetView E) (xs : List (EpochSetView E)) → EpochsFall (x ∷ xs) → (k : ℕ) (d : EpochSetView E) → k < length xs → (get_or xs k d).epoch < x.epoch
under x [] f k d l = grind arith
under x (y ∷ ys) f zero d l = f.0
under x (y ∷ ys) f (suc k) d l = let h : (get_or ys k d).epoch < y.epoch = under y ys f.1 k d (omega arith) in omega (arith, f.0)

pub leading-at : {E : Type 0} (k : ℕ) (d : EpochSetView E) (xs : List (EpochSetView E)) → EpochsFall xs → k < length xs → leading (get_or xs k d).epoch xs ≡ k
leading-at k d [] f l = grind arith
leading-at zero d (x ∷ xs) f l = rw (le-ltb x.epoch x.epoch (omega arith)) refl
leading-at (suc k) d (x ∷ xs) f l = rw (lt-ltb (get_or xs k d).epoch x.epoch (under x xs f k d (omega arith)), leading-at k d xs f.1 (omega arith)) refl

pub filter-drop : {E : Type 0} (p : EpochSetView E → Bool) (n i : ℕ) (d : EpochSetView E) (xs : List (EpochSetView E)) → ((k : ℕ) → k < length xs → p (get_or xs k d) ≡ nat_le n (i + k)) → filter p xs ≡ drop (n - i) xs
filter-drop p n i d [] h = sym (drop-nil (n - i))
filter-drop p n i d (x ∷ xs) h =
    let rest : filter p xs ≡ drop (n - suc i) xs = filter-drop p n (suc i) d xs (λ k l. h (suc k) (omega arith) ∙ ap (λ t. nat_le n t) (omega arith)) in
    elim (cases_lt i n) [
      | inl out ↦
          let t : p x ≡ false = h zero (omega arith) ∙ lt-leb n (i + 0) (omega arith) in
          let m : n - i ≡ suc (n - suc i) = omega arith in
          rw (t, m) rest
      | inr keep ↦
          let t : p x ≡ true = h zero (omega arith) ∙ le-leb n (i + 0) (omega arith) in
          let m : n - i ≡ 0 = omega arith in
          let m' : n - suc i ≡ 0 = omega arith in
          rw (t, m) (ap (λ t. x ∷ t) (rw m' at rest))
    ]

pub same-le : (n a b : ℕ) → min n a ≡ min n b → nat_le n a ≡ nat_le n b
same-le n a b h = grind (arith, le-leb, lt-leb)

pub closed-test : {E S : Type 0} (es : Entries E S) (of : Message → List E) (n k : ℕ) (d : EpochSetView E) (arrivals : List Arrival) → k < length (kept es of n arrivals) → nat_le n (greater (Some (get_or (kept es of n arrivals) k d).epoch) (epochs arrivals)) ≡ nat_le n (0 + k)
closed-test es of n k d arrivals h =
    let e : ℕ = (get_or (kept es of n arrivals) k d).epoch in
    let g : greater (Some e) (epochs arrivals) ≡ leadingN e (epochs arrivals) = greater-leading e (epochs arrivals) (epochs-fall arrivals) in
    let t : min n (leadingN e (epochs arrivals)) ≡ min n k =
    sym (leadingN-take n e (epochs arrivals)) ∙ ap (leadingN e) (sym (same_greatest es of n arrivals)) ∙ leadingN-take n e (keys (kept es of n arrivals))
    ∙ ap (min n) (leadingN-keys e (kept es of n arrivals) ∙ leading-at k d (kept es of n arrivals) (kept-falls es of n arrivals) h) in
    rw g (same-le n (leadingN e (epochs arrivals)) (0 + k) (t ∙ ap (min n) (omega arith)))

pub closed-drop : {E S : Type 0} (es : Entries E S) (of : Message → List E) (n : ℕ) (d : EpochSetView E) (arrivals : List Arrival) → closed es of n arrivals ≡ drop n (kept es of n arrivals)
closed-drop es of n d arrivals = filter-drop (λ x. nat_le n (greater (Some x.epoch) (epochs arrivals))) n 0 d (kept es of n arrivals) (λ k h. closed-test es of n k d arrivals h) ∙ ap (λ t. drop t (kept es of n arrivals)) (omega arith)

pub closed-rest : {E S : Type 0} (es : Entries E S) (of : Message → List E) → ClosedAreRest es of
closed-rest es of n arrivals = closed-drop es of n (no_cells 0) arrivals

pub falls-take : {E : Type 0} (n : ℕ) (xs : List (EpochSetView E)) → EpochsFall xs → EpochsFall (take n xs)
falls-take zero xs f = tt
falls-take (suc n) [] f = tt
falls-take (suc zero) (x ∷ xs) f = (tt, tt)
falls-take (suc (suc n)) (x ∷ []) f = (tt, tt)
falls-take (suc (suc n)) (x ∷ y ∷ ys) f = (f.0, falls-take (suc n) (y ∷ ys) f.1)

pub leading-take : {E : Type 0} (n e : ℕ) (xs : List (EpochSetView E)) → leading e (take n xs) ≡ min n (leading e xs)
leading-take n e xs = sym (leadingN-keys e (take n xs)) ∙ ap (leadingN e) (keys-take n xs) ∙ leadingN-take n e (keys xs) ∙ ap (min n) (leadingN-keys e xs)

pub leading-length : {E : Type 0} (e : ℕ) (xs : List (EpochSetView E)) → leading e xs ≤ length xs
leading-length e [] = omega arith
leading-length e (x ∷ xs) = elim (cases_lt e x.epoch) [
  | inl below ↦ rw (lt-ltb e x.epoch below) (let h : leading e xs ≤ length xs = leading-length e xs in omega arith)
  | inr over ↦ rw (le-ltb e x.epoch over) (omega arith)
]

pub parts : {X : Type 0} (n : ℕ) (all front back : List X) → all ≡ front ++ back → length front ≡ n → (take n all ≡ front) × (drop n all ≡ back)
parts n all front back e l = rw (e, ← l) (take-append_seam front back, drop-append_seam front back)

pub whole : {X : Type 0} (n : ℕ) (all : List X) → length all ≤ n → (take n all ≡ all) × (drop n all ≡ [])
whole n all h = (grind (arith, common_steps), grind (arith, common_steps))

pub leading-kept : {E S : Type 0} (es : Entries E S) (of : Message → List E) (n e : ℕ) (before : List Arrival) → leadingN e (epochs before) < n → leading e (kept es of n before) < n
leading-kept es of n e before h =
    let q : min n (leading e (kept es of n before)) ≡ min n (leadingN e (epochs before)) =
    sym (leading-take n e (kept es of n before)) ∙ leading-sets es of n e (take n (kept es of n before)) before refl in
    grind arith

-- an observation that is not late, from what is held
pub record Joins {E S : Type 0} (es : Entries E S) (of : Message → List E) (n e : ℕ) (m : Message) (before : List Arrival) (new : List (EpochSetView E)) (closes : Option (EpochSetView E)) : Type 0 where
  pub not_late : late n (At (Some e) m) before ≡ false
  pub holds : new ≡ take n (kept es of n (At (Some e) m ∷ before))
  pub closing : closed es of n (At (Some e) m ∷ before) ≡ option_to_list closes ++ closed es of n before

pub offer-joins : {E S : Type 0} (es : Entries E S) (of : Message → List E) (n e : ℕ) (m : Message) (sets items new : List (EpochSetView E)) (before : List Arrival) (closes : Option (EpochSetView E)) → sets ≡ take n (kept es of n before) → leading e sets < n
    → items ≡ with_arrival es e (of m) sets → take n items ≡ new → drop n items ≡ option_to_list closes → Joins es of n e m before new closes
offer-joins {E = E} es of n e m sets items new before closes h l put front back =
    let fresh : leadingN e (epochs before) < n = sets-open es of n e sets before h l in
    let K : List (EpochSetView E) = kept es of n before in
    let same : leading e K < n = leading-kept es of n e before fresh in
    let d : EpochSetView E = no_cells 0 in
    let now : kept es of n (At (Some e) m ∷ before) ≡ with_arrival es e (of m) K = is-open es of n e m before fresh in
    record {
      not_late = late-false n e m before fresh;
      holds = sym (ap (take n) now ∙ take-with_arrival es n e (of m) K ∙ ap (λ t. take n (with_arrival es e (of m) t)) (sym h) ∙ ap (take n) (sym put) ∙ front);
      closing = closed-drop es of n d (At (Some e) m ∷ before) ∙ ap (drop n) now ∙ drop-with_arrival es n e (of m) K same
          ∙ ap (λ t. drop n (with_arrival es e (of m) t) ++ drop n K) (sym h) ∙ ap (λ t. drop n t ++ drop n K) (sym put)
          ∙ ap (λ t. t ++ drop n K) back ∙ ap (λ t. option_to_list closes ++ t) (sym (closed-drop es of n d before));
    }

pub offer-late : {E S : Type 0} (es : Entries E S) (of : Message → List E) (n e : ℕ) (m : Message) (sets : List (EpochSetView E)) (before : List Arrival) → sets ≡ take n (kept es of n before) → leading e sets ≡ n
    → (late n (At (Some e) m) before ≡ true) × (sets ≡ take n (kept es of n (At (Some e) m ∷ before))) × (closed es of n (At (Some e) m ∷ before) ≡ closed es of n before)
offer-late {E = E} es of n e m sets before h l =
    let over : n ≤ leadingN e (epochs before) = sets-late es of n e sets before h (omega arith) in
    let d : EpochSetView E = no_cells 0 in (
      late-true n e m before over,
      h ∙ ap (take n) (sym (is-late es of n e m before over)),
      closed-drop es of n d (At (Some e) m ∷ before) ∙ ap (drop n) (is-late es of n e m before over) ∙ sym (closed-drop es of n d before),
    )

-- what is held of an epoch is what is kept of it
pub kept-found : {E S : Type 0} (es : Entries E S) (of : Message → List E) (n e : ℕ) (b : List E) (sets : List (EpochSetView E)) (before : List Arrival) → sets ≡ take n (kept es of n before) → cells_at e sets ≡ Some b → cells_at e (kept es of n before) ≡ Some b
kept-found es of n e b sets before h f = cells_at-take n e b (kept es of n before) (rw h at f)

pub kept-none : {E S : Type 0} (es : Entries E S) (of : Message → List E) (n e : ℕ) (sets : List (EpochSetView E)) (before : List Arrival) → sets ≡ take n (kept es of n before) → leading e sets < n → cells_at e sets ≡ None → cells_at e (kept es of n before) ≡ None
kept-none es of n e sets before h l f = cells_at-none n e (kept es of n before) (kept-falls es of n before) (leading-kept es of n e before (sets-open es of n e sets before h l)) (rw h at f)

-- the search for a place

pub gt-past : (a b : ℕ) → is_gt (nat_cmp a b) ≡ true → b < a
gt-past a b h = grind (arith, nat_tests)

pub gt-stop : (a b : ℕ) → is_gt (nat_cmp a b) ≡ false → a ≤ b
gt-stop a b h = grind (arith, nat_tests)

gt-all : (a b : ℕ) → b < a → is_gt (nat_cmp a b) ≡ true
gt-all a b h = grind (arith, nat_tests)

pub leading-past : {E : Type 0} (e i : ℕ) (d : EpochSetView E) (xs : List (EpochSetView E)) → EpochsFall xs → i < length xs → e < (get_or xs i d).epoch → i < leading e xs
leading-past e i d [] f l h = grind arith
leading-past e zero d (x ∷ xs) f l h = rw (lt-ltb e x.epoch h) (omega arith)
leading-past e (suc i) d (x ∷ xs) f l h =
    let a : (get_or xs i d).epoch < x.epoch = under x xs f i d (omega arith) in
    let p : i < leading e xs = leading-past e i d xs f.1 (omega arith) h in
    rw (lt-ltb e x.epoch (omega arith)) (omega arith)

pub leading-stop : {E : Type 0} (e i : ℕ) (d : EpochSetView E) (xs : List (EpochSetView E)) → i < length xs → (get_or xs i d).epoch ≤ e → leading e xs ≤ i
leading-stop e i d [] l h = grind arith
leading-stop e zero d (x ∷ xs) l h = rw (le-ltb e x.epoch h) (omega arith)
leading-stop e (suc i) d (x ∷ xs) l h = elim (cases_lt e x.epoch) [
  | inl below ↦ rw (lt-ltb e x.epoch below) (let p : leading e xs ≤ i = leading-stop e i d xs (omega arith) h in omega arith)
  | inr over ↦ rw (le-ltb e x.epoch over) (omega arith)
]

pub leading-between : {E : Type 0} (e i : ℕ) (d : EpochSetView E) (xs : List (EpochSetView E)) → EpochsFall xs → i ≤ length xs → ((k : ℕ) → k < i → e < (get_or xs k d).epoch) → (i < length xs → (get_or xs i d).epoch ≤ e) → i ≡ leading e xs
leading-between e i d xs f l before after =
    let most : leading e xs ≤ length xs = leading-length e xs in
    let low : i ≤ leading e xs = reached i l before in
    elim (cases_lt i (length xs)) [
      | inl inside ↦ let high : leading e xs ≤ i = leading-stop e i d xs inside (after inside) in omega arith
      | inr end ↦ omega arith
    ]
  where
    reached : (k : ℕ) → k ≤ length xs → ((j : ℕ) → j < k → e < (get_or xs j d).epoch) → k ≤ leading e xs
    reached zero l before = omega arith
    reached (suc k) l before = let p : k < leading e xs = leading-past e k d xs f (omega arith) (before k (omega arith)) in omega arith

-- the epochs that are greater than one stand before the others
pub epochs-partitioned : {E : Type 0} (e : ℕ) (xs : List (EpochSetView E)) → EpochsFall xs → IsPartitionedBy (λ (x : EpochSetView E). is_gt (nat_cmp x.epoch e)) xs
epochs-partitioned e [] f i j d l h past = grind arith
epochs-partitioned e (x ∷ xs) f zero zero d l h past = past
epochs-partitioned e (x ∷ xs) f zero (suc j) d l h past =
    let y : ℕ = (get_or xs j d).epoch in
    let less : y < x.epoch = under x xs f j d (omega arith) in
    gt-all x.epoch e (omega (arith, gt-past y e past))
epochs-partitioned e (x ∷ xs) f (suc i) zero d l h past = absurd (omega arith)
epochs-partitioned e (x ∷ xs) f (suc i) (suc j) d l h past = epochs-partitioned e xs f.1 i j d (omega arith) (omega arith) past
