-- Station messages: an excused one equals the kept one with its number.
use Rattle.std.proofs.Common.{◌≡◌, ◌≢◌, ℕ, suc, ◌≤◌, Bool, true, false, List, [], ◌∷◌, ◌++◌, length, take, Option, None, Some, refl, ap, sym, ◌∙◌, arith, inl, inr, subst, eqb}
use Rattle.std.specs.Prelude.{nat_lt, nat_le, ◌==◌, ◌&&◌, not, if◌then◌else◌, min, option_map, option_to_list}
use Rattle.std.specs.Option.{ForSome, unwrap_or, option_or}
use Rattle.std.proofs.lemmas.Bool.{lt-ltb, le-ltb, le-leb, lt-leb, cases_lt, cases_order, eq-eqb, ne_eqb, cases_eq, cases_Bool}
use Rattle.std.proofs.lemmas.List.{length-take}
use Rattle.rtk_message.specs.declared.any_message.AnyMessage.{AnyMessage as Message}
use Rattle.rtk_message.specs.AnyDecoded.{number_of}
use Rattle.rtk_collect.specs.declared.outcome.Outcome.{Outcome}
use Rattle.rtk_collect.specs.declared.outcome.Outcome.TheVariants.{Taken, Conflict, Repeat, Late}
use Rattle.rtk_collect.specs.EpochSet.{EpochSetView}
use Rattle.rtk_collect.specs.Equal.{equal_stations, is_first}
use Rattle.rtk_collect.specs.Arrival.{Arrival, At}
use Rattle.rtk_collect.specs.Late.{with_epoch, epochs, First, first_of, first_with, is_repeat_of, is_excused, late}
use Rattle.rtk_collect.specs.Accepted.{station, first, kept, closed}
use Rattle.rtk_collect.specs.Answer.{Class, LateClass, TakenClass, RepeatClass, ConflictClass, class_of_station, class_of, IsRightAnswer}
use Rattle.rtk_collect.specs.NextWindow.{outcome_of_station}
use Rattle.rtk_collect.specs.Steps.Observed.{ListsConflicts}
use Rattle.rtk_collect.specs.Steps.Slot.{AnswersStationMessage}
use Rattle.rtk_collect.proofs.ArrivalsLemmas.{keys, same_greatest, with_epoch-new, with_epoch-below, with_epoch-same}
use Rattle.rtk_collect.specs.Entries.{Entries}

pub length-keys : {E : Type 0} (xs : List (EpochSetView E)) → length (keys xs) ≡ length xs
length-keys [] = refl
length-keys (x ∷ xs) = ap suc (length-keys xs)

-- whether n epochs have come, from what is held
pub full-is : {E S : Type 0} (es : Entries E S) (of : Message → List E) (n : ℕ) (sets : List (EpochSetView E)) (before : List Arrival) → sets ≡ take n (kept es of n before) → eqb (length sets) n ≡ nat_le n (length (epochs before))
full-is es of n sets before h =
    let a : length sets ≡ min n (length (kept es of n before)) = ap length h ∙ length-take n (kept es of n before) in
    let b : min n (length (keys (kept es of n before))) ≡ min n (length (epochs before)) = sym (length-take n (keys (kept es of n before))) ∙ ap length (same_greatest es of n before) ∙ length-take n (epochs before) in
    let k : length (keys (kept es of n before)) ≡ length (kept es of n before) = length-keys (kept es of n before) in
    elim (cases_lt (length (epochs before)) n) [
      | inl less ↦ ne_eqb (length sets) n (λ e. omega arith) ∙ sym (lt-leb n (length (epochs before)) less)
      | inr full ↦ eq-eqb (length sets) n (omega arith) ∙ sym (le-leb n (length (epochs before)) full)
    ]

pub and-none : (a : Bool) → (a && false) ≡ false
and-none true = refl
and-none false = refl

and-all : (a : Bool) → (a && true) ≡ a
and-all true = refl
and-all false = refl

-- more epochs

pub longer : (e : ℕ) (es : List ℕ) → length es ≤ length (with_epoch e es)
longer e [] = omega arith
longer e (x ∷ xs) = elim (cases_order x e) [
  | inl same ↦ rw (with_epoch-same e x xs (sym same)) (omega arith)
  | inr more ↦ elim more [
    | inl new ↦ rw (with_epoch-new e x xs new) (omega arith)
    | inr below ↦ rw (with_epoch-below e x xs below) (let h : length xs ≤ length (with_epoch e xs) = longer e xs in omega arith)
  ]
]

-- at most n epochs had come before the first one
abbrev CameBefore : Option First → ℕ → Type 0
CameBefore None n = Unit {0}
CameBefore (Some f) n = f.epochs_before ≤ n

before-more : (o : Option First) (a b : ℕ) → a ≤ b → CameBefore o a → CameBefore o b
before-more None a b l h = tt
before-more (Some f) a b l h = omega arith

first-before : (o : Option First) (m : Message) (b : Bool) (len : ℕ) → CameBefore o len → CameBefore (first_of o (if b then Some (record { message = m; epochs_before = len }) else None)) len
first-before None m true len h = omega arith
first-before None m false len h = tt
first-before (Some f) m b len h = h

came-before : (k : ℕ) (arrivals : List Arrival) → CameBefore (first_with k arrivals) (length (epochs arrivals))
came-before k [] = tt
came-before k (At (Some e) m ∷ before) = before-more (first_with k before) (length (epochs before)) _ (longer e (epochs before)) (came-before k before)
came-before k (At None m ∷ before) = first-before (first_with k before) m (number_of m == k) (length (epochs before)) (came-before k before)

-- the first one, if it came before n epochs
abbrev pub on_time : ℕ → Option First → Option Message
on_time n None = None
on_time n (Some f) = if nat_lt f.epochs_before n then Some f.message else None

stays : (S : Option Message) (m : Message) (b : Bool) (x : Message) → S ≡ Some x → (if b then first S m else S) ≡ S
stays S m true x h = ap (λ o. first o m) h ∙ sym h
stays S m false x h = refl

first-on-time : (n : ℕ) (m : Message) (F : Option First) (len : ℕ) → CameBefore F len
    → (if not (nat_le n len && not (is_repeat_of n m F)) then first (on_time n F) m else on_time n F) ≡ on_time n (first_of F (Some (record { message = m; epochs_before = len })))
first-on-time n m None len h = elim (cases_lt len n) [
  | inl less ↦ rw (lt-leb n len less, lt-ltb len n less) refl
  | inr full ↦ rw (le-leb n len full, le-ltb len n full) refl
]
first-on-time n m (Some f) len h = elim (cases_lt f.epochs_before n) [
  | inl less ↦ rw (lt-ltb f.epochs_before n less) (stays (Some f.message) m (not (nat_le n len && not (equal_stations f.message m && true))) f.message refl)
  | inr full ↦ rw (le-ltb f.epochs_before n full, and-none (equal_stations f.message m), le-leb n len (omega arith)) refl
]

no-later : (o : Option First) → first_of o None ≡ o
no-later None = refl
no-later (Some f) = refl

-- the kept message with a number is the first one, if it came before n epochs
pub station-is : (n k : ℕ) (arrivals : List Arrival) → station n k arrivals ≡ on_time n (first_with k arrivals)
station-is n k [] = refl
station-is n k (At (Some e) m ∷ before) = station-is n k before
station-is n k (At None m ∷ before) = elim (cases_eq (number_of m) k) [
  | inl same ↦
      let is : is_repeat_of n m (first_with (number_of m) before) ≡ is_repeat_of n m (first_with k before) = ap (λ t. is_repeat_of n m (first_with t before)) same in
      rw (eq-eqb (number_of m) k same, is, station-is n k before) (first-on-time n m (first_with k before) (length (epochs before)) (came-before k before))
  | inr other ↦ rw (ne_eqb (number_of m) k other, no-later (first_with k before)) (station-is n k before)
]

excused-on-time : (n : ℕ) (m : Message) (F : Option First) → is_repeat_of n m F ≡ is_first equal_stations (on_time n F) m
excused-on-time n m None = refl
excused-on-time n m (Some f) = elim (cases_lt f.epochs_before n) [
  | inl less ↦ rw (lt-ltb f.epochs_before n less) (and-all (equal_stations f.message m))
  | inr full ↦ rw (le-ltb f.epochs_before n full) (and-none (equal_stations f.message m))
]

-- a station message is excused exactly if it equals the kept one with its number
pub excused-is : (n : ℕ) (m : Message) (before : List Arrival) → is_excused n (At None m) before ≡ is_first equal_stations (station n (number_of m) before) m
excused-is n m before = excused-on-time n m (first_with (number_of m) before) ∙ ap (λ o. is_first equal_stations o m) (sym (station-is n (number_of m) before))

-- one station message, from the kept one

module _ {E S : Type 0} (es : Entries E S) (of : Message → List E) {T : Type 0} (wrap : T → Message) (eq : T → T → Bool) (same_eq : (a b : T) → equal_stations (wrap a) (wrap b) ≡ eq a b) where
  first-wrapped : (slot : Option T) (m : T) → is_first equal_stations (option_map wrap slot) (wrap m) ≡ is_first eq slot m
  first-wrapped None m = refl
  first-wrapped (Some x) m = same_eq x m

  abbrev class_here : Bool → Option T → T → Class
  class_here full slot m = if full && not (is_first eq slot m) then LateClass else class_of_station (wrap m) (option_map wrap slot)

  abbrev kept_here : Bool → Option T → T → Option Message
  kept_here full slot m = if not (full && not (is_first eq slot m)) then first (option_map wrap slot) (wrap m) else option_map wrap slot

  -- the answer, as a class
  abbrev ClassOf : Outcome E S → Class → Type 0
  ClassOf Late c = c ≡ LateClass
  ClassOf (Taken out) c = (c ≡ TakenClass) × (out ≡ None)
  ClassOf Conflict c = c ≡ ConflictClass
  ClassOf Repeat c = c ≡ RepeatClass

  slot-class : (slot new : Option T) (m : T) (full : Bool) (offer : Outcome E S) → AnswersStationMessage eq slot m full offer new → ClassOf offer (class_here full slot m) × (option_map wrap new ≡ kept_here full slot m)
  slot-class slot new m full Late h = (rw (h.0, h.1) refl, ap (option_map wrap) h.2 ∙ rw (h.0, h.1) refl)
  slot-class slot new m full (Taken out) h = ((rw (h.0, h.1) refl, h.3), ap (option_map wrap) h.2 ∙ rw (h.0, h.1) refl)
  slot-class None new m full Conflict h = absurd h
  slot-class (Some x) new m full Conflict h = (rw (h.0, same_eq x m, h.1) refl, ap (option_map wrap) h.2 ∙ rw h.0 refl)
  slot-class None new m full Repeat h = let q = h.0 in cc
  slot-class (Some x) new m full Repeat h = (rw (h.0, and-none full, same_eq x m, h.0) refl, ap (option_map wrap) h.1 ∙ rw (h.0, and-none full) refl)

  answers-from : (n : ℕ) (m : T) (before : List Arrival) (offer : Outcome E S) → ClassOf offer (class_of es of n (At None (wrap m)) before) → IsRightAnswer es of n (At None (wrap m)) before offer []
  answers-from n m before Late h = (h, refl, refl)
  answers-from n m before (Taken out) h = (h.0, refl, ap (λ o. option_to_list o ++ closed es of n before) (sym h.1))
  answers-from n m before Conflict h = (h, refl, refl)
  answers-from n m before Repeat h = (h, refl, refl)

  pub record StationStep (n k : ℕ) (m : T) (before : List Arrival) (offer : Outcome E S) (slot : Option T) : Type 0 where
    pub answers : IsRightAnswer es of n (At None (wrap m)) before offer []
    pub after : option_map wrap slot ≡ station n k (At None (wrap m) ∷ before)

  pub slot-parts : (n k : ℕ) (m : T) (slot new : Option T) (full : Bool) (offer : Outcome E S) (before : List Arrival) → number_of (wrap m) ≡ k → option_map wrap slot ≡ station n k before
      → full ≡ nat_le n (length (epochs before)) → AnswersStationMessage eq slot m full offer new → StationStep n k m before offer new
  slot-parts n k m slot new full offer before num s f h =
      let p = slot-class slot new m full offer h in
      let s' : station n (number_of (wrap m)) before ≡ option_map wrap slot = ap (λ t. station n t before) num ∙ sym s in
      let ex : is_excused n (At None (wrap m)) before ≡ is_first eq slot m = excused-is n (wrap m) before ∙ ap (λ o. is_first equal_stations o (wrap m)) s' ∙ first-wrapped slot m in
      let over : late n (At None (wrap m)) before ≡ (full && not (is_first eq slot m)) = ap (λ b. b && not (is_excused n (At None (wrap m)) before)) (sym f) ∙ ap (λ b. full && not b) ex in
      let class : class_of es of n (At None (wrap m)) before ≡ class_here full slot m =
      ap (λ b. if b then LateClass else class_of_station (wrap m) (station n (number_of (wrap m)) before)) over ∙ ap (λ o. if full && not (is_first eq slot m) then LateClass else class_of_station (wrap m) o) s' in
      let kept_is : station n k (At None (wrap m) ∷ before) ≡ kept_here full slot m =
      ap (λ b. if b && not (late n (At None (wrap m)) before) then first (station n k before) (wrap m) else station n k before) (eq-eqb (number_of (wrap m)) k num)
      ∙ ap (λ b. if not b then first (station n k before) (wrap m) else station n k before) over ∙ ap (λ o. if not (full && not (is_first eq slot m)) then first o (wrap m) else o) (sym s) in
      record {
        answers = answers-from n m before offer (subst (ClassOf offer) (sym class) p.0);
        after = p.1 ∙ sym kept_is;
      }

  -- the answer and what is kept, by what was kept

  abbrev pub late_here : Bool → Option T → T → Bool
  late_here full slot m = full && not (is_first equal_stations (option_map wrap slot) (wrap m))

  abbrev outcome_here : Option T → T → Outcome E S
  outcome_here None m = Taken None
  outcome_here (Some x) m = if eq x m then Repeat else Conflict

  outcome-wrapped : (slot : Option T) (m : T) → outcome_of_station (wrap m) (option_map wrap slot) ≡ outcome_here slot m
  outcome-wrapped None m = refl
  outcome-wrapped (Some x) m = rw (same_eq x m) refl

  answers-here : (slot : Option T) (m : T) (full : Bool) → AnswersStationMessage eq slot m full
      (if full && not (is_first eq slot m) then Late else outcome_here slot m) (if full && not (is_first eq slot m) then slot else option_or slot (Some m))
  answers-here None m true = (refl, refl, refl)
  answers-here None m false = (refl, refl, refl, refl)
  answers-here (Some x) m full = elim (cases_Bool (eq x m)) [
    | inl same ↦ rw (same, and-none full) (same, refl)
    | inr other ↦ rw other (elim full as (λ b. AnswersStationMessage eq (Some x) m b (if b && true then Late else Conflict) (if b && true then Some x else Some x)) [ true ↦ (refl, other, refl) | false ↦ (refl, other, refl) ])
  ]

  pub slot-next : (n k : ℕ) (m : T) (slot : Option T) (full : Bool) (before : List Arrival) → number_of (wrap m) ≡ k → option_map wrap slot ≡ station n k before → full ≡ nat_le n (length (epochs before))
      → StationStep n k m before (if late_here full slot m then Late else outcome_of_station (wrap m) (option_map wrap slot)) (if late_here full slot m then slot else option_or slot (Some m))
  slot-next n k m slot full before num s f =
      rw (first-wrapped slot m, outcome-wrapped slot m) (slot-parts n k m slot _ full _ before num s f (answers-here slot m full))

-- a message with another number leaves the kept one
pub other-stays : (n k : ℕ) (m : Message) (before : List Arrival) → number_of m ≢ k → station n k (At None m ∷ before) ≡ station n k before
other-stays n k m before h = ap (λ b. if b && not (late n (At None m) before) then first (station n k before) m else station n k before) (ne_eqb (number_of m) k h)

-- the fields of the kept one fit, if the fields of the offered one do
pub slot-fits : {T E S : Type 0} (eq : T → T → Bool) (P : T → Type 0) (slot new : Option T) (m : T) (full : Bool) (offer : Outcome E S) → AnswersStationMessage eq slot m full offer new → ForSome slot P → P m → ForSome new P
slot-fits eq P slot new m full Late h f p = subst (λ o. ForSome o P) (sym h.2) f
slot-fits eq P slot new m full (Taken out) h f p = subst (λ o. ForSome o P) (sym h.2) (λ x e. subst P (ap (λ o. unwrap_or o x) e) p)
slot-fits eq P None new m full Conflict h f p = absurd h
slot-fits eq P (Some x) new m full Conflict h f p = subst (λ o. ForSome o P) (sym h.2) f
slot-fits eq P slot new m full Repeat h f p = subst (λ o. ForSome o P) (sym h.1) f

-- the answer closes no epoch, and lists no conflict
pub slot-lists : {T E S : Type 0} (eq : T → T → Bool) (slot new : Option T) (m : T) (full : Bool) (offer : Outcome E S) → AnswersStationMessage eq slot m full offer new → ListsConflicts offer []
slot-lists eq slot new m full Late h = refl
slot-lists eq slot new m full (Taken out) h = h.3
slot-lists eq slot new m full Conflict h = tt
slot-lists eq slot new m full Repeat h = refl
