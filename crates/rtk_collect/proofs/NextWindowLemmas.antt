-- What a window answers and is afterwards, by what it holds alone.
use Rattle.std.proofs.Common.{◌≡◌, ℕ, zero, suc, ◌<◌, ◌≤◌, Bool, true, false, List, [], ◌∷◌, ◌++◌, length, take, drop, map, Option, None, Some, refl, ap, sym, ◌∙◌, arith, inl, inr, eqb}
use Rattle.std.specs.Prelude.{nat_le, if◌then◌else◌, option_map, option_to_list, slice_get}
use Rattle.std.specs.Option.{option_or}
use Rattle.std.proofs.lemmas.Bool.{lt-ltb, le-ltb, le-leb, lt-leb, eq-eqb, ne_eqb, cases_lt}
use Rattle.rtk_message.specs.declared.any_message.AnyMessage.{AnyMessage as Message}
use Rattle.rtk_message.specs.declared.any_message.AnyMessage.TheVariants as any
use Rattle.rtk_message.specs.declared.message.Message.TheVariants.{Obs1004, Arp1005, Arp1006, Msm1074}
use Rattle.rtk_message.specs.declared.arp1005.Arp1005.{Arp1005 as Message1005}
use Rattle.rtk_message.specs.declared.arp1006.Arp1006.{Arp1006 as Message1006}
use Rattle.rtk_collect.specs.declared.outcome.Outcome.TheVariants.{Taken, Conflict, Repeat, Late}
use Rattle.rtk_collect.specs.Equal.{equal_1005, equal_1006}
use Rattle.rtk_collect.specs.EpochSet.{EpochSetView, fresh, conflicts, EpochsFall}
use Rattle.rtk_collect.specs.Arrival.{Arrival, At, message_of_1005, message_of_1006}
use Rattle.rtk_collect.specs.Late.{epochs, greater}
use Rattle.rtk_collect.specs.Accepted.{station, with_arrival, kept, cells_at, closed}
use Rattle.rtk_collect.specs.Answer.{LateClass, TakenClass, RepeatClass, ConflictClass, conflicts_with, IsRightAnswer}
use Rattle.rtk_collect.specs.Collector.{CollectorView, IsCollectorView, RepresentsArrivals}
use Rattle.rtk_collect.specs.NextWindow.{late_in, outcome_by, outcome_of_cells, outcome_in, conflicts_in, next_window}
use Rattle.rtk_collect.specs.Laws.{WindowsAnswer, AnswersAreUnique, WindowsAreUnique, NewWindowIsEmpty}
use Rattle.rtk_collect.specs.Steps.OrderedPlaces.{leading}
use Rattle.rtk_collect.proofs.ArrivalsLemmas.{keys, FallsN, leadingN-keys, greater-leading, and-true, with_arrival-absent, with_arrival-falls}
use Rattle.rtk_collect.proofs.FewLemmas.{epochs-keys}
use Rattle.rtk_collect.proofs.JoinsLemmas.{leading-length, offer-late, whole}
use Rattle.rtk_collect.proofs.OffersLemmas.{length-insert, class-late, cells-taken, cells-stale, by-none, by-some, OpenStep, OpenParts, open-parts, NewStep, NewParts, new-parts}
use Rattle.rtk_collect.proofs.OpeningLemmas.{length-held}
use Rattle.rtk_collect.proofs.StationLemmas.{full-is, length-keys, slot-next, other-stays}
use Rattle.rtk_collect.specs.Entries.{Entries}

-- ---- observations

keys-fall : {E : Type 0} (xs : List (EpochSetView E)) → EpochsFall xs → FallsN (keys xs)
keys-fall [] f = tt
keys-fall (x ∷ []) f = (tt, tt)
keys-fall (x ∷ y ∷ ys) f = (f.0, keys-fall (y ∷ ys) f.1)

-- a window is full of greater epochs
late-held : {E : Type 0} (w : CollectorView E) (e : ℕ) (m : Message) → EpochsFall w.sets → late_in w (At (Some e) m) ≡ nat_le w.places (leading e w.sets)
late-held w e m f =
    and-true (nat_le w.places (greater (Some e) (map (λ x. x.epoch) w.sets)))
    ∙ ap (λ es. nat_le w.places (greater (Some e) es)) (epochs-keys w.sets) ∙ ap (nat_le w.places) (greater-leading e (keys w.sets) (keys-fall w.sets f) ∙ leadingN-keys e w.sets)

drop-get : {X : Type 0} (n : ℕ) (xs : List X) → length xs ≤ suc n → drop n xs ≡ option_to_list (slice_get xs n)
drop-get zero [] l = refl
drop-get zero (x ∷ []) l = refl
drop-get zero (x ∷ y ∷ ys) l = absurd (omega arith)
drop-get (suc n) [] l = refl
drop-get (suc n) (x ∷ xs) l = drop-get n xs (omega arith)

-- an observation that opens its epoch
opens : {E S : Type 0} (es : Entries E S) (of : Message → List E) (w : CollectorView E) (e : ℕ) (m : Message) (before : List Arrival) → IsCollectorView w → RepresentsArrivals es of w before → leading e w.sets < w.places → cells_at e w.sets ≡ None
    → IsRightAnswer es of w.places (At (Some e) m) before (Taken (slice_get (with_arrival es e (of m) w.sets) w.places)) (conflicts es (of m) [])
    × RepresentsArrivals es of (record w { sets = take w.places (with_arrival es e (of m) w.sets) }) (At (Some e) m ∷ before)
opens {E = E} es of w e m before ok h less none =
    let items : List (EpochSetView E) = with_arrival es e (of m) w.sets in
    let long : length items ≡ suc (length w.sets) = ap length (with_arrival-absent es e (of m) w.sets none) ∙ length-insert _ (leading e w.sets) w.sets (leading-length e w.sets) in
    let step : NewStep es w.places e (of m) w.sets items = record { put = refl; falls = with_arrival-falls es e (of m) w.sets ok.falls; less = less; none = none } in
    let p : NewParts es of w.places e m before (take w.places items) (slice_get items w.places) =
    new-parts es of w.places e m w.sets items (take w.places items) before (slice_get items w.places) step h.sets refl (drop-get w.places items (omega (arith, long, ok.few))) in
    ((p.class, p.same, p.joins.closing), record { sets = p.joins.holds; arp1005 = h.arp1005; arp1006 = h.arp1006 })

by-conflicts : {E S : Type 0} (es : Entries E S) (of : Message → List E) (n e : ℕ) (m : Message) (before : List Arrival) (new : List (EpochSetView E)) (b : List E) (listed : List S) → OpenParts es of n e m before new b → fresh es (of m) b ≤ 0
    → listed ≡ conflicts es (of m) b → IsRightAnswer es of n (At (Some e) m) before (outcome_by listed) listed
by-conflicts es of n e m before new b [] p none is =
    (p.class RepeatClass (cells-stale es (of m) b (fresh es (of m) b) refl none ∙ by-none (conflicts es (of m) b) (sym is)), refl, p.joins.closing)
by-conflicts es of n e m before new b (c ∷ cs) p none is =
    (p.class ConflictClass (cells-stale es (of m) b (fresh es (of m) b) refl none ∙ by-some (conflicts es (of m) b) (λ q. let r : c ∷ cs ≡ [] = is ∙ q in cc)), is ∙ p.same, p.joins.closing)

-- an observation of an epoch that is open
joins : {E S : Type 0} (es : Entries E S) (of : Message → List E) (w : CollectorView E) (e : ℕ) (m : Message) (before : List Arrival) (b : List E) (behind : Option (EpochSetView E)) → IsCollectorView w → RepresentsArrivals es of w before → leading e w.sets < w.places
    → cells_at e w.sets ≡ Some b → IsRightAnswer es of w.places (At (Some e) m) before (outcome_of_cells es (of m) (Some b) behind) (conflicts es (of m) b)
    × RepresentsArrivals es of (record w { sets = take w.places (with_arrival es e (of m) w.sets) }) (At (Some e) m ∷ before)
joins {E = E} es of w e m before b behind ok h less held =
    let items : List (EpochSetView E) = with_arrival es e (of m) w.sets in
    let long : length items ≡ length w.sets = length-held es e (of m) b w.sets ok.falls held in
    let all : take w.places items ≡ items = (whole w.places items (omega (arith, long, ok.few))).0 in
    let step : OpenStep es w.places e (of m) w.sets items b = record {
      put = refl;
      falls = with_arrival-falls es e (of m) w.sets ok.falls;
      len = omega (arith, long, ok.few);
      same_len = long;
      less = less;
      cells = held;
    } in
    let p : OpenParts es of w.places e m before items b = open-parts es of w.places e m w.sets items b before step h.sets in (
      elim (cases_lt 0 (fresh es (of m) b)) [
        | inl some ↦ rw (lt-ltb 0 (fresh es (of m) b) some) (p.class TakenClass (cells-taken es (of m) b (fresh es (of m) b) refl some), p.same, p.joins.closing)
        | inr none ↦ rw (le-ltb 0 (fresh es (of m) b) none) (by-conflicts es of w.places e m before items b (conflicts es (of m) b) p none refl)
      ],
      record { sets = all ∙ p.joins.holds; arp1005 = h.arp1005; arp1006 = h.arp1006 },
    )

-- ---- station messages

full-held : {E S : Type 0} (es : Entries E S) (of : Message → List E) (w : CollectorView E) (before : List Arrival) → IsCollectorView w → RepresentsArrivals es of w before → nat_le w.places (length (map (λ (x : EpochSetView E). x.epoch) w.sets)) ≡ nat_le w.places (length (epochs before))
full-held {E = E} es of w before ok h =
    let l : length (map (λ (x : EpochSetView E). x.epoch) w.sets) ≡ length w.sets = ap length (epochs-keys w.sets) ∙ length-keys w.sets in
    ap (nat_le w.places) l ∙ fits w.places (length w.sets) ok.few ∙ full-is es of w.places w.sets before h.sets
  where
    fits : (n k : ℕ) → k ≤ n → nat_le n k ≡ eqb k n
    fits n k l = elim (cases_lt k n) [
      | inl less ↦ lt-leb n k less ∙ sym (ne_eqb k n (λ q. omega arith))
      | inr full ↦ le-leb n k full ∙ sym (eq-eqb k n (omega arith))
    ]

no-lists : {X : Type 0} (b : Bool) → (if b then [] else []) ≡ (let none : List X = [] in none)
no-lists true = refl
no-lists false = refl

chosen-1005 : {E : Type 0} (w : CollectorView E) (b : Bool) (slot : Option Message1005) → (if b then w else record w { arp1005 = slot }) ≡ record w { arp1005 = if b then w.arp1005 else slot }
chosen-1005 w true slot = refl
chosen-1005 w false slot = refl

chosen-1006 : {E : Type 0} (w : CollectorView E) (b : Bool) (slot : Option Message1006) → (if b then w else record w { arp1006 = slot }) ≡ record w { arp1006 = if b then w.arp1006 else slot }
chosen-1006 w true slot = refl
chosen-1006 w false slot = refl

of-1005 : {E S : Type 0} (es : Entries E S) (of : Message → List E) (w : CollectorView E) (m : Message1005) (before : List Arrival) → IsCollectorView w → RepresentsArrivals es of w before
    → let a = At None (message_of_1005 m) in IsRightAnswer es of w.places a before (outcome_in es of w a) (conflicts_in es of w a) × RepresentsArrivals es of (next_window es of w a) (a ∷ before)
of-1005 es of w m before ok h =
    let p = slot-next es of message_of_1005 equal_1005 (λ a b. refl) w.places 1005 m w.arp1005 _ before refl h.arp1005 (full-held es of w before ok h) in
    rw (no-lists (late_in w (At None (message_of_1005 m))), chosen-1005 w (late_in w (At None (message_of_1005 m))) (option_or w.arp1005 (Some m)))
    (p.answers, record { sets = h.sets; arp1005 = p.after; arp1006 = h.arp1006 ∙ sym (other-stays w.places 1006 (message_of_1005 m) before (λ e. omega arith)) })

of-1006 : {E S : Type 0} (es : Entries E S) (of : Message → List E) (w : CollectorView E) (m : Message1006) (before : List Arrival) → IsCollectorView w → RepresentsArrivals es of w before
    → let a = At None (message_of_1006 m) in IsRightAnswer es of w.places a before (outcome_in es of w a) (conflicts_in es of w a) × RepresentsArrivals es of (next_window es of w a) (a ∷ before)
of-1006 es of w m before ok h =
    let p = slot-next es of message_of_1006 equal_1006 (λ a b. refl) w.places 1006 m w.arp1006 _ before refl h.arp1006 (full-held es of w before ok h) in
    rw (no-lists (late_in w (At None (message_of_1006 m))), chosen-1006 w (late_in w (At None (message_of_1006 m))) (option_or w.arp1006 (Some m)))
    (p.answers, record { sets = h.sets; arp1005 = h.arp1005 ∙ sym (other-stays w.places 1005 (message_of_1006 m) before (λ e. omega arith)); arp1006 = p.after })

-- ---- all arrivals

pub windows-answer : {E S : Type 0} (es : Entries E S) (of : Message → List E) → WindowsAnswer es of
windows-answer es of w (At None (any.Message (Obs1004 m))) ok timed = cc
windows-answer es of w (At None (any.Message (Arp1005 m))) ok timed = λ before h. of-1005 es of w m before ok h
windows-answer es of w (At None (any.Message (Arp1006 m))) ok timed = λ before h. of-1006 es of w m before ok h
windows-answer es of w (At None (any.Message (Msm1074 m))) ok timed = cc
windows-answer es of w (At None (any.Msm m)) ok timed = cc
windows-answer es of w (At None (any.Obs1012 m)) ok timed = cc
windows-answer {E = E} es of w (At (Some e) m) ok timed = λ before h. elim (cases_lt (leading e w.sets) w.places) [
  | inl less ↦
      let in_time : late_in w (At (Some e) m) ≡ false = late-held w e m ok.falls ∙ lt-leb w.places (leading e w.sets) less in
      rw in_time (by w e m before ok h less (cells_at e w.sets) refl)
  | inr over ↦
      let late : late_in w (At (Some e) m) ≡ true = late-held w e m ok.falls ∙ le-leb w.places (leading e w.sets) over in
      let l : leading e w.sets ≤ length w.sets = leading-length e w.sets in
      let p = offer-late es of w.places e m w.sets before h.sets (omega (arith, l, ok.few)) in
      rw late ((class-late es of w.places e m before p.0, refl, p.2), record { sets = p.1; arp1005 = h.arp1005; arp1006 = h.arp1006 })
]
  where
    by : (w : CollectorView E) (e : ℕ) (m : Message) (before : List Arrival) → IsCollectorView w → RepresentsArrivals es of w before → leading e w.sets < w.places
        → (o : Option (List E)) → cells_at e w.sets ≡ o
        → IsRightAnswer es of w.places (At (Some e) m) before (outcome_of_cells es (of m) (cells_at e w.sets) (slice_get (with_arrival es e (of m) w.sets) w.places)) (conflicts_with es (of m) (cells_at e w.sets))
        × RepresentsArrivals es of (record w { sets = take w.places (with_arrival es e (of m) w.sets) }) (At (Some e) m ∷ before)
    by w e m before ok h less None is = rw is (opens es of w e m before ok h less is)
    by w e m before ok h less (Some b) is = rw is (joins es of w e m before b (slice_get (with_arrival es e (of m) w.sets) w.places) ok h less is)

-- ---- one answer, one window

same-front : {E : Type 0} (o p : Option (EpochSetView E)) (xs : List (EpochSetView E)) → option_to_list o ++ xs ≡ option_to_list p ++ xs → o ≡ p
same-front None None xs h = refl
same-front None (Some y) xs h = let l = ap length h in absurd (omega arith)
same-front (Some x) None xs h = let l = ap length h in absurd (omega arith)
same-front (Some x) (Some y) xs h = ap (λ t. slice_get t 0) h

pub answers-unique : {E S : Type 0} (es : Entries E S) (of : Message → List E) → AnswersAreUnique es of
answers-unique es of n a before Late Late listed others r s = (refl, r.1 ∙ sym s.1)
answers-unique es of n a before Repeat Repeat listed others r s = (refl, r.1 ∙ sym s.1)
answers-unique es of n a before Conflict Conflict listed others r s = (refl, r.1 ∙ sym s.1)
answers-unique es of n a before (Taken o) (Taken p) listed others r s = (ap Taken (same-front o p (closed es of n before) (sym r.2 ∙ s.2)), r.1 ∙ sym s.1)
answers-unique es of n a before Late Repeat listed others r s = let q : LateClass ≡ RepeatClass = sym r.0 ∙ s.0 in cc
answers-unique es of n a before Late Conflict listed others r s = let q : LateClass ≡ ConflictClass = sym r.0 ∙ s.0 in cc
answers-unique es of n a before Late (Taken p) listed others r s = let q : LateClass ≡ TakenClass = sym r.0 ∙ s.0 in cc
answers-unique es of n a before Repeat Late listed others r s = let q : RepeatClass ≡ LateClass = sym r.0 ∙ s.0 in cc
answers-unique es of n a before Repeat Conflict listed others r s = let q : RepeatClass ≡ ConflictClass = sym r.0 ∙ s.0 in cc
answers-unique es of n a before Repeat (Taken p) listed others r s = let q : RepeatClass ≡ TakenClass = sym r.0 ∙ s.0 in cc
answers-unique es of n a before Conflict Late listed others r s = let q : ConflictClass ≡ LateClass = sym r.0 ∙ s.0 in cc
answers-unique es of n a before Conflict Repeat listed others r s = let q : ConflictClass ≡ RepeatClass = sym r.0 ∙ s.0 in cc
answers-unique es of n a before Conflict (Taken p) listed others r s = let q : ConflictClass ≡ TakenClass = sym r.0 ∙ s.0 in cc
answers-unique es of n a before (Taken o) Late listed others r s = let q : TakenClass ≡ LateClass = sym r.0 ∙ s.0 in cc
answers-unique es of n a before (Taken o) Repeat listed others r s = let q : TakenClass ≡ RepeatClass = sym r.0 ∙ s.0 in cc
answers-unique es of n a before (Taken o) Conflict listed others r s = let q : TakenClass ≡ ConflictClass = sym r.0 ∙ s.0 in cc

same-slot : {T : Type 0} (wrap : T → Message) → ((a b : T) → wrap a ≡ wrap b → a ≡ b) → (o p : Option T) → option_map wrap o ≡ option_map wrap p → o ≡ p
same-slot wrap one None None h = refl
same-slot wrap one None (Some y) h = cc
same-slot wrap one (Some x) None h = cc
same-slot wrap one (Some x) (Some y) h = ap Some (one x y (let q : Some (wrap x) ≡ Some (wrap y) = h in cc))

pub windows-unique : {E S : Type 0} (es : Entries E S) (of : Message → List E) → WindowsAreUnique es of
windows-unique es of v w arrivals places r s =
    let sets : v.sets ≡ w.sets = r.sets ∙ ap (λ n. take n (kept es of n arrivals)) places ∙ sym s.sets in
    let one : v.arp1005 ≡ w.arp1005 = same-slot message_of_1005 (λ a b h. cc) v.arp1005 w.arp1005 (r.arp1005 ∙ ap (λ n. station n 1005 arrivals) places ∙ sym s.arp1005) in
    let two : v.arp1006 ≡ w.arp1006 = same-slot message_of_1006 (λ a b h. cc) v.arp1006 w.arp1006 (r.arp1006 ∙ ap (λ n. station n 1006 arrivals) places ∙ sym s.arp1006) in
    ap (λ n. record v { places = n }) places ∙ ap (λ t. record v { places = w.places; sets = t }) sets
    ∙ ap (λ t. record v { places = w.places; sets = w.sets; arp1005 = t }) one ∙ ap (λ t. record w { arp1006 = t }) two

take-none : {X : Type 0} (n : ℕ) → (let none : List X = [] in none) ≡ take n []
take-none zero = refl
take-none (suc n) = refl

pub new-window-is-empty : {E S : Type 0} (es : Entries E S) (of : Message → List E) → NewWindowIsEmpty es of
new-window-is-empty es of n = record { sets = take-none n; arp1005 = refl; arp1006 = refl }
