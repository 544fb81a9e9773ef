-- A window holds the same of two lists of arrivals: it answers the next arrival alike, closes the same epochs, and then holds
-- the same again.
use Rattle.std.proofs.Common.{◌≡◌, ◌⊎◌, ℕ, zero, suc, ◌<◌, ◌≤◌, Bool, true, false, cond, List, [], ◌∷◌, ◌++◌, length, take, drop, Option, None, Some, refl, ap, sym, ◌∙◌, arith, inl, inr}
use Rattle.std.specs.Prelude.{nat_lt, nat_le, not, ◌&&◌, ◌==◌, map, if◌then◌else◌, min}
use Rattle.std.proofs.lemmas.Bool.{lt-ltb, le-ltb, le-leb, lt-leb, leb-false, cases_order, cases_lt, ne_eqb, eq-eqb, cases_Bool}
use Rattle.std.proofs.lemmas.List.{append-nil, take-append-drop, take-append-le, drop-append-le, length-take, take-map}
use Rattle.std.proofs.lemmas.List.Sums.{sum_by-cons}
use Rattle.std.proofs.Math.ListN.{drop_of_length-le}
use Rattle.rtk_message.specs.declared.any_message.AnyMessage.{AnyMessage as Message}
use Rattle.rtk_message.specs.AnyDecoded.{number_of}
use Rattle.rtk_obs.specs.declared.signal_cells.SignalEntry.{SignalEntry}
use Rattle.rtk_collect.specs.Signals.{signals}
use Rattle.rtk_collect.specs.Answer.{LateClass, class_of_cells, class_of_station, class_in_time, class_of, conflicts_with, conflicts_of}
use Rattle.rtk_collect.specs.Arrival.{Arrival, At}
use Rattle.rtk_collect.specs.Accepted.{first, no_cells, with_arrival, kept, cells_at, closed, station}
use Rattle.rtk_collect.specs.EpochSet.{EpochSetView, EpochsFall, joined}
use Rattle.rtk_collect.specs.Equal.{equal_stations, is_first}
use Rattle.rtk_collect.specs.Late.{with_epoch, epochs, greater, late}
use Rattle.rtk_collect.specs.Laws.{KeptAreGreatest, ExcusedIsKept}
use Rattle.rtk_collect.proofs.PublicLaws.{closed-drop, kept-late, kept-new, kept-falls, with_arrival-new, with_arrival-same, with_arrival-below}

-- ---- epochs that fall

abbrev FirstBelow : ℕ → List ℕ → Type 0
FirstBelow e [] = Unit {0}
FirstBelow e (x ∷ xs) = x < e

abbrev Fall : List ℕ → Type 0
Fall [] = Unit {0}
Fall (x ∷ xs) = FirstBelow x xs × Fall xs

with_epoch-under : (e x : ℕ) (xs : List ℕ) → e < x → FirstBelow x xs → FirstBelow x (with_epoch e xs)
with_epoch-under e x [] h b = h
with_epoch-under e x (y ∷ ys) h b = grind (arith, lt-ltb, le-ltb)

with_epoch-falls : (e : ℕ) (xs : List ℕ) → Fall xs → Fall (with_epoch e xs)
with_epoch-falls e [] f = (tt, tt)
with_epoch-falls e (x ∷ xs) f = elim (cases_order x e) [
  | inl same ↦ rw (le-ltb x e (omega arith), le-ltb e x (omega arith)) f
  | inr more ↦ elim more [
    | inl less ↦ rw (lt-ltb x e less) (less, f)
    | inr above ↦ rw (le-ltb x e (omega arith), lt-ltb e x above) (with_epoch-under e x xs above f.0, with_epoch-falls e xs f.1)
  ]
]

epochs-fall : (arrivals : List Arrival) → Fall (epochs arrivals)
epochs-fall [] = tt
epochs-fall (At None m ∷ before) = epochs-fall before
epochs-fall (At (Some e) m ∷ before) = with_epoch-falls e (epochs before) (epochs-fall before)

fall-take : (n : ℕ) (xs : List ℕ) → Fall xs → Fall (take n xs)
fall-take zero xs f = tt
fall-take (suc n) [] f = tt
fall-take (suc zero) (x ∷ xs) f = (tt, tt)
fall-take (suc (suc n)) (x ∷ []) f = (tt, tt)
fall-take (suc (suc n)) (x ∷ y ∷ ys) f = (f.0, fall-take (suc n) (y ∷ ys) f.1)

greater-one : (e x : ℕ) (xs : List ℕ) → e < x → greater (Some e) (x ∷ xs) ≡ suc (greater (Some e) xs)
greater-one e x xs h = sum_by-cons (λ y. cond (nat_lt e y) 1 0) x xs ∙ rw (lt-ltb e x h) (omega arith)

greater-none : (e x : ℕ) (xs : List ℕ) → Fall (x ∷ xs) → x ≤ e → greater (Some e) (x ∷ xs) ≡ 0
greater-none e x [] f h = grind arith
greater-none e x (y ∷ ys) f h = grind (arith, greater-none e y ys f.1)

suc-le : (n a : ℕ) → nat_le (suc n) (suc a) ≡ nat_le n a
suc-le n a = grind (arith, le-leb, lt-leb)

-- whether n are greater shows from the n greatest
greatest-tell : (n e : ℕ) (xs : List ℕ) → Fall xs → nat_le n (greater (Some e) xs) ≡ nat_le n (greater (Some e) (take n xs))
greatest-tell zero e xs f = le-leb 0 (greater (Some e) xs) (omega arith) ∙ sym (le-leb 0 (greater (Some e) (take zero xs)) (omega arith))
greatest-tell (suc n) e [] f = refl
greatest-tell (suc n) e (x ∷ xs) f = elim (cases_lt e x) [
  | inl above ↦
      ap (nat_le (suc n)) (greater-one e x xs above) ∙ suc-le n (greater (Some e) xs) ∙ greatest-tell n e xs f.1
      ∙ sym (suc-le n (greater (Some e) (take n xs))) ∙ ap (nat_le (suc n)) (sym (greater-one e x (take n xs) above))
  | inr under ↦
      ap (nat_le (suc n)) (greater-none e x xs f under) ∙ ap (nat_le (suc n)) (sym (greater-none e x (take n xs) (fall-take (suc n) (x ∷ xs) f) under))
]

times : List (EpochSetView SignalEntry) → List ℕ
times xs = map (λ x. x.epoch) xs

times-fall : (xs : List (EpochSetView SignalEntry)) → EpochsFall xs → Fall (times xs)
unfolding times
times-fall [] f = tt
times-fall (x ∷ []) f = (tt, tt)
times-fall (x ∷ y ∷ ys) f = (f.0, times-fall (y ∷ ys) f.1)

-- ---- the same window

-- a window of n places holds the same of both
pub record SameWindow (of : Message → List SignalEntry) (n : ℕ) (first second : List Arrival) : Type 0 where
  pub sets : take n (kept signals of n first) ≡ take n (kept signals of n second)
  pub arp1005 : station n 1005 first ≡ station n 1005 second
  pub arp1006 : station n 1006 first ≡ station n 1006 second

-- a message without an epoch is a 1005 or a 1006
abbrev pub HasStationNumber : Arrival → Type 0
HasStationNumber (At (Some e) m) = Unit {0}
HasStationNumber (At None m) = (number_of m ≡ 1005) ⊎ (number_of m ≡ 1006)

same-station : (of : Message → List SignalEntry) → (n k : ℕ) (first second : List Arrival) → SameWindow of n first second → (k ≡ 1005) ⊎ (k ≡ 1006) → station n k first ≡ station n k second
same-station of n k first second w (inl is) = rw is w.arp1005
same-station of n k first second w (inr is) = rw is w.arp1006

-- ---- late

and-true : (b : Bool) → (b && true) ≡ b
and-true true = refl
and-true false = refl

late-by-kept : (of : Message → List SignalEntry) → KeptAreGreatest signals of → (n e : ℕ) (m : Message) (before : List Arrival) → late n (At (Some e) m) before ≡ nat_le n (greater (Some e) (take n (times (kept signals of n before))))
unfolding times
late-by-kept of law n e m before =
    and-true (nat_le n (greater (Some e) (epochs before))) ∙ greatest-tell n e (epochs before) (epochs-fall before)
    ∙ ap (λ (xs : List ℕ). nat_le n (greater (Some e) xs)) (sym (law n before) ∙ sym (take-map (λ (x : EpochSetView SignalEntry). x.epoch) n (kept signals of n before)))

late-same : (of : Message → List SignalEntry) → KeptAreGreatest signals of → (n e : ℕ) (m : Message) (first second : List Arrival) → SameWindow of n first second → late n (At (Some e) m) first ≡ late n (At (Some e) m) second
unfolding times
late-same of law n e m first second w =
    let taken = λ (before : List Arrival). take-map (λ (x : EpochSetView SignalEntry). x.epoch) n (kept signals of n before) in
    late-by-kept of law n e m first
    ∙ ap (λ (xs : List ℕ). nat_le n (greater (Some e) xs)) (taken first ∙ ap (map (λ (x : EpochSetView SignalEntry). x.epoch)) w.sets ∙ sym (taken second))
    ∙ sym (late-by-kept of law n e m second)

-- an observation that is not late has fewer than n greater epochs among those that are kept
few-greater : (of : Message → List SignalEntry) → KeptAreGreatest signals of → (n e : ℕ) (m : Message) (before : List Arrival) → late n (At (Some e) m) before ≡ false → greater (Some e) (times (kept signals of n before)) < n
few-greater of law n e m before h =
    leb-false n _ (greatest-tell n e (times (kept signals of n before)) (times-fall (kept signals of n before) (kept-falls signals of n before)) ∙ sym (late-by-kept of law n e m before) ∙ h)

same-le : (n a b : ℕ) → min n a ≡ min n b → nat_le n a ≡ nat_le n b
same-le n a b h = grind (arith, le-leb, lt-leb)

same-count : (of : Message → List SignalEntry) → KeptAreGreatest signals of → (n : ℕ) (first second : List Arrival) → SameWindow of n first second → min n (length (epochs first)) ≡ min n (length (epochs second))
same-count of law n first second w =
    sym (length-take n (epochs first)) ∙ ap length (sym (law n first) ∙ ap (map (λ (x : EpochSetView SignalEntry). x.epoch)) w.sets ∙ law n second) ∙ length-take n (epochs second)

late-station : ExcusedIsKept → (n : ℕ) (m : Message) (before : List Arrival) → late n (At None m) before ≡ (nat_le n (length (epochs before)) && not (is_first equal_stations (station n (number_of m) before) m))
late-station law n m before = ap (λ (b : Bool). nat_le n (length (epochs before)) && not b) (law n m before)

late-station-same : (of : Message → List SignalEntry) → KeptAreGreatest signals of → ExcusedIsKept → (n : ℕ) (m : Message) (first second : List Arrival) → SameWindow of n first second → station n (number_of m) first ≡ station n (number_of m) second
    → late n (At None m) first ≡ late n (At None m) second
late-station-same of greatest excused n m first second w same =
    late-station excused n m first
    ∙ ap (λ (b : Bool). b && not (is_first equal_stations (station n (number_of m) first) m)) (same-le n _ _ (same-count of greatest n first second w))
    ∙ ap (λ (o : Option Message). nat_le n (length (epochs second)) && not (is_first equal_stations o m)) same
    ∙ sym (late-station excused n m second)

-- ---- cells that join

falls-take : (n : ℕ) (xs : List (EpochSetView SignalEntry)) → EpochsFall xs → EpochsFall (take n xs)
falls-take zero xs f = tt
falls-take (suc n) [] f = tt
falls-take (suc zero) (x ∷ xs) f = (tt, tt)
falls-take (suc (suc n)) (x ∷ []) f = (tt, tt)
falls-take (suc (suc n)) (x ∷ y ∷ ys) f = (f.0, falls-take (suc n) (y ∷ ys) f.1)

none-below : (e : ℕ) (x : EpochSetView SignalEntry) (xs : List (EpochSetView SignalEntry)) → EpochsFall (x ∷ xs) → x.epoch < e → cells_at e (x ∷ xs) ≡ None
none-below e x [] f h = rw (ne_eqb e x.epoch (λ q. omega arith)) refl
none-below e x (y ∷ ys) f h = rw (ne_eqb e x.epoch (λ q. omega arith)) (none-below e y ys f.1 (omega (arith, f.0)))

-- the cells of an epoch that is not late are in the window
cells-held : (n e : ℕ) (xs : List (EpochSetView SignalEntry)) → EpochsFall xs → greater (Some e) (times xs) < n → cells_at e xs ≡ cells_at e (take n xs)
unfolding times
cells-held zero e xs f h = absurd (omega arith)
cells-held (suc n) e [] f h = refl
cells-held (suc n) e (x ∷ xs) f h = elim (cases_order x.epoch e) [
  | inl same ↦ rw (eq-eqb e x.epoch (sym same)) refl
  | inr more ↦ elim more [
    | inl less ↦ none-below e x xs f less ∙ sym (none-below e x (take n xs) (falls-take (suc n) (x ∷ xs) f) less)
    | inr above ↦
        let fewer = greater-one e x.epoch (map (λ y. y.epoch) xs) above in
        let rest : cells_at e xs ≡ cells_at e (take n xs) = cells-held n e xs f.1 (omega (arith, h, fewer)) in
        rw (ne_eqb e x.epoch (λ q. omega arith)) rest
  ]
]

-- they join the window, and the others stay
join-window : (n e : ℕ) (cells : List SignalEntry) (xs : List (EpochSetView SignalEntry)) → greater (Some e) (times xs) < n → with_arrival signals e cells xs ≡ with_arrival signals e cells (take n xs) ++ drop n xs
unfolding times
join-window zero e cells xs h = absurd (omega arith)
join-window (suc n) e cells [] h = sym (append-nil _)
join-window (suc n) e cells (x ∷ xs) h = elim (cases_order x.epoch e) [
  | inl same ↦ rw (with_arrival-same signals e cells x xs (sym same), with_arrival-same signals e cells x (take n xs) (sym same)) (ap (λ t. joined signals cells x ∷ t) (sym (take-append-drop n xs)))
  | inr more ↦ elim more [
    | inl less ↦ rw (with_arrival-new signals e cells x xs less, with_arrival-new signals e cells x (take n xs) less) (ap (λ t. joined signals cells (no_cells e) ∷ x ∷ t) (sym (take-append-drop n xs)))
    | inr above ↦
        let fewer = greater-one e x.epoch (map (λ y. y.epoch) xs) above in
        rw (with_arrival-below signals e cells x xs above, with_arrival-below signals e cells x (take n xs) above) (ap (λ t. x ∷ t) (join-window n e cells xs (omega (arith, h, fewer))))
  ]
]

length-joins : (e : ℕ) (cells : List SignalEntry) (xs : List (EpochSetView SignalEntry)) → length xs ≤ length (with_arrival signals e cells xs)
length-joins e cells [] = omega arith
length-joins e cells (x ∷ xs) = elim (cases_order x.epoch e) [
  | inl same ↦ rw (with_arrival-same signals e cells x xs (sym same)) (omega arith)
  | inr more ↦ elim more [
    | inl less ↦ rw (with_arrival-new signals e cells x xs less) (omega arith)
    | inr above ↦ rw (with_arrival-below signals e cells x xs above) (let rest = length-joins e cells xs in omega arith)
  ]
]

record Seam (n : ℕ) (window others all : List (EpochSetView SignalEntry)) : Type 0 where
  pub front : take n all ≡ take n window
  pub back : drop n all ≡ drop n window ++ others

seam : (n : ℕ) (window others all : List (EpochSetView SignalEntry)) → all ≡ window ++ others → (n ≤ length window) ⊎ (others ≡ []) → Seam n window others all
seam n window others all is (inl full) = record { front = ap (take n) is ∙ take-append-le n window others full; back = ap (drop n) is ∙ drop-append-le n window others full }
seam n window others all is (inr none) =
    let same : all ≡ window = is ∙ ap (λ t. window ++ t) none ∙ append-nil window in
    record { front = ap (take n) same; back = ap (drop n) same ∙ sym (append-nil (drop n window)) ∙ ap (λ t. drop n window ++ t) (sym none) }

full-or-none : (n e : ℕ) (cells : List SignalEntry) (xs : List (EpochSetView SignalEntry)) → (n ≤ length (with_arrival signals e cells (take n xs))) ⊎ (drop n xs ≡ [])
full-or-none n e cells xs = elim (cases_lt (length xs) n) [
  | inl few ↦ inr (drop_of_length-le xs (omega arith))
  | inr many ↦ inl (let held = length-joins e cells (take n xs) in let size = length-take n xs in omega arith)
]

-- what is kept after an observation that is not late
after-joins : (of : Message → List SignalEntry) → KeptAreGreatest signals of → (n e : ℕ) (m : Message) (before : List Arrival) → late n (At (Some e) m) before ≡ false
    → Seam n (with_arrival signals e (of m) (take n (kept signals of n before))) (drop n (kept signals of n before)) (kept signals of n (At (Some e) m ∷ before))
after-joins of law n e m before fresh =
    seam n _ _ _ (kept-new signals of n e m before fresh ∙ join-window n e (of m) (kept signals of n before) (few-greater of law n e m before fresh)) (full-or-none n e (of m) (kept signals of n before))

-- ---- the next arrival

-- a window that holds the same of both answers this arrival alike, and then holds the same again
pub record AnsweredAlike (of : Message → List SignalEntry) (n : ℕ) (a : Arrival) (first second : List Arrival) : Type 0 where
  pub same_late : late n a first ≡ late n a second
  pub same_class : class_of signals of n a first ≡ class_of signals of n a second
  pub same_conflicts : late n a first ≡ false → conflicts_of signals of n a first ≡ conflicts_of signals of n a second
  pub closes : List (EpochSetView SignalEntry)
  pub first_closes : closed signals of n (a ∷ first) ≡ closes ++ closed signals of n first
  pub second_closes : closed signals of n (a ∷ second) ≡ closes ++ closed signals of n second
  pub holds : SameWindow of n (a ∷ first) (a ∷ second)

pub class-late : (of : Message → List SignalEntry) → (n : ℕ) (a : Arrival) (before : List Arrival) → late n a before ≡ true → class_of signals of n a before ≡ LateClass
class-late of n a before h = ap (λ (b : Bool). if b then LateClass else class_in_time signals of n a before) h

class-fresh : (of : Message → List SignalEntry) → (n : ℕ) (a : Arrival) (before : List Arrival) → late n a before ≡ false → class_of signals of n a before ≡ class_in_time signals of n a before
class-fresh of n a before h = ap (λ (b : Bool). if b then LateClass else class_in_time signals of n a before) h

none : EpochSetView SignalEntry
none = no_cells 0

late-closes : (of : Message → List SignalEntry) → (n e : ℕ) (m : Message) (before : List Arrival) → late n (At (Some e) m) before ≡ true → closed signals of n (At (Some e) m ∷ before) ≡ closed signals of n before
late-closes of n e m before over = closed-drop signals of n none (At (Some e) m ∷ before) ∙ ap (drop n) (kept-late signals of n e m before over) ∙ sym (closed-drop signals of n none before)

late-alike : (of : Message → List SignalEntry) → KeptAreGreatest signals of → (n e : ℕ) (m : Message) (first second : List Arrival) → SameWindow of n first second → late n (At (Some e) m) first ≡ true → late n (At (Some e) m) second ≡ true
    → AnsweredAlike of n (At (Some e) m) first second
late-alike of law n e m first second w over also = record {
  same_late = over ∙ sym also;
  same_class = class-late of n (At (Some e) m) first over ∙ sym (class-late of n (At (Some e) m) second also);
  same_conflicts = λ fresh. absurd (let no : true ≡ false = sym over ∙ fresh in cc);
  closes = [];
  first_closes = late-closes of n e m first over;
  second_closes = late-closes of n e m second also;
  holds = record {
    sets = ap (take n) (kept-late signals of n e m first over) ∙ w.sets ∙ ap (take n) (sym (kept-late signals of n e m second also));
    arp1005 = w.arp1005;
    arp1006 = w.arp1006;
  };
}

fresh-alike : (of : Message → List SignalEntry) → KeptAreGreatest signals of → (n e : ℕ) (m : Message) (first second : List Arrival) → SameWindow of n first second → late n (At (Some e) m) first ≡ false → late n (At (Some e) m) second ≡ false
    → AnsweredAlike of n (At (Some e) m) first second
fresh-alike of law n e m first second w fresh also =
    let one = after-joins of law n e m first fresh in
    let other = after-joins of law n e m second also in
    let joins : List (EpochSetView SignalEntry) = with_arrival signals e (of m) (take n (kept signals of n first)) in
    let same : joins ≡ with_arrival signals e (of m) (take n (kept signals of n second)) = ap (with_arrival signals e (of m)) w.sets in
    let cells : cells_at e (kept signals of n first) ≡ cells_at e (kept signals of n second) =
    cells-held n e (kept signals of n first) (kept-falls signals of n first) (few-greater of law n e m first fresh) ∙ ap (cells_at e) w.sets
    ∙ sym (cells-held n e (kept signals of n second) (kept-falls signals of n second) (few-greater of law n e m second also)) in
    record {
      same_late = fresh ∙ sym also;
      same_class = class-fresh of n (At (Some e) m) first fresh ∙ ap (class_of_cells signals (of m)) cells ∙ sym (class-fresh of n (At (Some e) m) second also);
      same_conflicts = λ _. ap (conflicts_with signals (of m)) cells;
      closes = drop n joins;
      first_closes = closed-drop signals of n none (At (Some e) m ∷ first) ∙ one.back ∙ ap (λ t. drop n joins ++ t) (sym (closed-drop signals of n none first));
      second_closes = closed-drop signals of n none (At (Some e) m ∷ second) ∙ other.back ∙ ap (λ t. drop n t ++ drop n (kept signals of n second)) (sym same) ∙ ap (λ t. drop n joins ++ t) (sym (closed-drop signals of n none second));
      holds = record {
        sets = one.front ∙ ap (take n) same ∙ sym other.front;
        arp1005 = w.arp1005;
        arp1006 = w.arp1006;
      };
    }

station-after : (of : Message → List SignalEntry) → ExcusedIsKept → KeptAreGreatest signals of → (n k : ℕ) (m : Message) (first_ones second_ones : List Arrival) → late n (At None m) first_ones ≡ late n (At None m) second_ones
    → station n k first_ones ≡ station n k second_ones → station n k (At None m ∷ first_ones) ≡ station n k (At None m ∷ second_ones)
station-after of excused greatest n k m first_ones second_ones same_late same =
    ap (λ (b : Bool). if (number_of m == k) && not b then first (station n k first_ones) m else station n k first_ones) same_late
    ∙ ap (λ (o : Option Message). if (number_of m == k) && not (late n (At None m) second_ones) then first o m else o) same

station-alike : (of : Message → List SignalEntry) → KeptAreGreatest signals of → ExcusedIsKept → (n : ℕ) (m : Message) (first second : List Arrival) → SameWindow of n first second → station n (number_of m) first ≡ station n (number_of m) second
    → AnsweredAlike of n (At None m) first second
station-alike of greatest excused n m first second w same =
    let late_too = late-station-same of greatest excused n m first second w same in
    record {
      same_late = late_too;
      same_class = ap (λ (b : Bool). if b then LateClass else class_of_station m (station n (number_of m) first)) late_too
          ∙ ap (λ (o : Option Message). if late n (At None m) second then LateClass else class_of_station m o) same;
      same_conflicts = λ _. refl;
      closes = [];
      first_closes = refl;
      second_closes = refl;
      holds = record {
        sets = w.sets;
        arp1005 = station-after of excused greatest n 1005 m first second late_too w.arp1005;
        arp1006 = station-after of excused greatest n 1006 m first second late_too w.arp1006;
      };
    }

pub answered-alike : (of : Message → List SignalEntry) → KeptAreGreatest signals of → ExcusedIsKept → (n : ℕ) (a : Arrival) (first second : List Arrival) → HasStationNumber a → SameWindow of n first second → AnsweredAlike of n a first second
answered-alike of greatest excused n (At None m) first second number w = station-alike of greatest excused n m first second w (same-station of n (number_of m) first second w number)
answered-alike of greatest excused n (At (Some e) m) first second number w =
    let same = late-same of greatest n e m first second w in
    elim (cases_Bool (late n (At (Some e) m) first)) [
      | inl over ↦ late-alike of greatest n e m first second w over (sym same ∙ over)
      | inr fresh ↦ fresh-alike of greatest n e m first second w fresh (sym same ∙ fresh)
    ]
