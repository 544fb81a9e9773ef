-- The three ways of an observation: into a held epoch, late, or into a new one.
use Rattle.std.proofs.Common.{◌≡◌, ◌≢◌, ℕ, zero, suc, ◌+◌, ◌<◌, ◌≤◌, List, [], ◌∷◌, ◌++◌, length, get_or, set, take, drop, Option, None, Some, refl, ap, sym, ◌∙◌, arith, inl, inr, subst}
use Rattle.std.specs.Prelude.{option_to_list, min, IfSome}
use Rattle.std.specs.List.{All, AllByRecursion, insert}
use Rattle.std.proofs.lemmas.Bool.{lt-ltb, cases_lt, cases_order}
use Rattle.std.proofs.lemmas.List.{length-append, append-nil}
use Rattle.std.proofs.lemmas.List.Elements.{All-from_recursion, recursion_from_All}
use Rattle.rtk_message.specs.declared.any_message.AnyMessage.{AnyMessage as Message}
use Rattle.rtk_collect.specs.declared.outcome.Outcome.{Outcome}
use Rattle.rtk_collect.specs.declared.outcome.Outcome.TheVariants.{Taken, Conflict, Repeat, Late}
use Rattle.rtk_collect.specs.EpochSet.{EpochSetView, joined, fresh, conflicts, EpochsFall}
use Rattle.rtk_collect.specs.Arrival.{Arrival, At}
use Rattle.rtk_collect.specs.Accepted.{with_arrival, kept, cells_at, closed}
use Rattle.rtk_collect.specs.Late.{epochs}
use Rattle.rtk_collect.specs.Steps.OrderedPlaces.{leading}
use Rattle.rtk_collect.specs.Answer.{IsRightAnswer, TakenClass, RepeatClass, ConflictClass, class_of_cells, class_of}
use Rattle.rtk_collect.specs.Steps.Observed.{IsAnswerOf, AddsCells, WouldTakeCells}
use Rattle.rtk_collect.specs.Collector.{CollectorView}
use Rattle.rtk_collect.specs.Offered.{AnswersArrival, ClosesBelow, ClosesLeast, NotBelow, WouldBeTaken}
use Rattle.rtk_collect.proofs.ArrivalsLemmas.{leadingN, late-false, sets-open, found-cells, absent-cells, opened, with_arrival-new, with_arrival-below, with_arrival-same}
use Rattle.rtk_collect.proofs.JoinsLemmas.{leading-length, kept-found, kept-none, offer-late, parts, whole}
use Rattle.rtk_collect.proofs.OffersLemmas.{length-insert, class-is, OpenStep, open-step, OpenParts, open-parts, NewStep, new-step, NewParts, new-parts, class-late, cells-taken, cells-stale, by-none, by-some}
use Rattle.rtk_collect.specs.Entries.{Entries}

-- each epoch is at least e
abbrev AtLeast : {E : Type 0} → ℕ → List (EpochSetView E) → Type 0
AtLeast {E = E} e xs = AllByRecursion (λ (x : EpochSetView E). e ≤ x.epoch) xs

least-with : {E S : Type 0} (es : Entries E S) (e f : ℕ) (cs : List E) (xs : List (EpochSetView E)) → e ≤ f → AtLeast e xs → AtLeast e (with_arrival es f cs xs)
least-with es e f cs [] l h = (l, tt)
least-with es e f cs (x ∷ xs) l h = elim (cases_order x.epoch f) [
  | inl same ↦ rw (with_arrival-same es f cs x xs (sym same)) h
  | inr more ↦ elim more [
    | inl new ↦ rw (with_arrival-new es f cs x xs new) (l, h)
    | inr below ↦ rw (with_arrival-below es f cs x xs below) (h.0, least-with es e f cs xs l h.1)
  ]
]

-- an epoch that is not below all is at least the least
least-of : {E : Type 0} (e f : ℕ) (xs : List (EpochSetView E)) → leading f xs < length xs → AtLeast e xs → e ≤ f
least-of e f [] l h = grind arith
least-of e f (x ∷ xs) l h = elim (cases_lt f x.epoch) [
  | inl below ↦ least-of e f xs (let q = rw (lt-ltb f x.epoch below) at l in omega arith) h.1
  | inr over ↦ omega (arith, h.0)
]

least-front : {E : Type 0} (e : ℕ) (front back : List (EpochSetView E)) → AtLeast e (front ++ back) → AtLeast e front
least-front e [] back h = tt
least-front e (x ∷ front) back h = (h.0, least-front e front back h.1)

pub falls-front : {E : Type 0} (front back : List (EpochSetView E)) → EpochsFall (front ++ back) → EpochsFall front
falls-front [] back f = tt
falls-front (x ∷ []) back f = (tt, tt)
falls-front (x ∷ y ∷ front) back f = (f.0, falls-front (y ∷ front) back f.1)

-- the last of falling epochs is less than all others
last-below : {E : Type 0} (front : List (EpochSetView E)) (s : EpochSetView E) → EpochsFall (front ++ s ∷ []) → AllByRecursion (λ (x : EpochSetView E). s.epoch < x.epoch) front
last-below [] s f = tt
last-below (x ∷ []) s f = (f.0, tt)
last-below (x ∷ y ∷ front) s f = let h = last-below (y ∷ front) s f.1 in (omega (arith, h.0, f.0), h)

pub closes-below : {E : Type 0} (S : Type 0) (front : List (EpochSetView E)) (closes : Option (EpochSetView E)) → EpochsFall (front ++ option_to_list closes) → ClosesBelow {E = E} {S = S} (Taken closes) front
closes-below S front None f = tt
closes-below {E = E} S front (Some s) f = All-from_recursion (λ (x : EpochSetView E). s.epoch < x.epoch) front (last-below front s f)

pub least-is : {E : Type 0} (front : List (EpochSetView E)) (o : Option (EpochSetView E)) → EpochsFall (front ++ option_to_list o) → IfSome o (λ s. All (λ (x : EpochSetView E). s.epoch < x.epoch) front)
least-is front None f = tt
least-is {E = E} front (Some s) f = All-from_recursion (λ (x : EpochSetView E). s.epoch < x.epoch) front (last-below front s f)

-- the last epoch is at least each lower bound of all of them
last-least : {E : Type 0} (e : ℕ) (front : List (EpochSetView E)) (s : EpochSetView E) → AtLeast e (front ++ s ∷ []) → e ≤ s.epoch
last-least e [] s h = h.0
last-least e (x ∷ front) s h = last-least e front s h.1

pub last-not-below : {E : Type 0} (sets front : List (EpochSetView E)) (s : EpochSetView E) → sets ≡ front ++ s ∷ [] → NotBelow s sets
last-not-below {E = E} sets front s split e h = last-least e front s (subst (AtLeast e) split (recursion_from_All (λ (t : EpochSetView E). e ≤ t.epoch) sets h))

pub left-not-below : {E : Type 0} (sets front : List (EpochSetView E)) (o : Option (EpochSetView E)) → sets ≡ front ++ option_to_list o → IfSome o (λ s. NotBelow s sets)
left-not-below sets front None split = tt
left-not-below sets front (Some s) split = last-not-below sets front s split

abbrev rest : {E : Type 0} → List (EpochSetView E) → List (EpochSetView E)
rest [] = []
rest (x ∷ xs) = xs

-- what stands last after a new epoch in front of it stood last before
insert-last : {E : Type 0} (sets : List (EpochSetView E)) (i : ℕ) (v : EpochSetView E) (new : List (EpochSetView E)) (s : EpochSetView E) → i < length sets → insert sets i v ≡ new ++ s ∷ [] → (front : List (EpochSetView E)) × (sets ≡ front ++ s ∷ [])
insert-last [] i v new s l e = absurd (omega arith)
insert-last (x ∷ xs) zero v [] s l e = let q = ap length e in absurd (omega arith)
insert-last (x ∷ xs) zero v (y ∷ ys) s l e = (ys, ap rest e)
insert-last (x ∷ xs) (suc i) v [] s l e = let q : insert xs i v ≡ [] = ap rest e in let p : suc (length xs) ≡ 0 = sym (length-insert v i xs (omega arith)) ∙ ap length q in absurd (omega arith)
insert-last (x ∷ xs) (suc i) v (y ∷ ys) s l e = let h = insert-last xs i v ys s (omega arith) (ap rest e) in (x ∷ h.0, ap (λ t. x ∷ t) h.1)

new-least : {E : Type 0} (S : Type 0) (n i : ℕ) (sets items new : List (EpochSetView E)) (v : EpochSetView E) (closes : Option (EpochSetView E)) → length sets ≤ n → i < n → items ≡ insert sets i v
    → length items ≡ suc (length sets) → items ≡ new ++ option_to_list closes → length new ≡ min n (length items) → ClosesLeast {E = E} {S = S} n sets (Taken closes)
new-least S n i sets items new v None small l is grew split len = tt
new-least S n i sets items new v (Some s) small l is grew split len =
    let q : length items ≡ length new + 1 = ap length split ∙ length-append new (s ∷ []) in
    let full : length sets ≡ n = omega arith in
    let last = insert-last sets i v new s (omega arith) (sym is ∙ split) in
    (full, last, last-not-below sets last.0 s last.1)

open-least : {E S : Type 0} (n count : ℕ) (found : List S) (offer : Outcome E S) (sets : List (EpochSetView E)) → IsAnswerOf count found offer → ClosesLeast n sets offer
open-least n count found Late sets a = tt
open-least n count found (Taken None) sets a = tt
open-least n count found (Taken (Some s)) sets a = let q = a.1 in cc
open-least n count found Conflict sets a = tt
open-least n count found Repeat sets a = tt

-- if memory is refused

-- some cell of a message is new in an epoch of the window
pub fresh-taken : {E S : Type 0} (es : Entries E S) (n e at : ℕ) (cs : List E) (d : EpochSetView E) (sets : List (EpochSetView E)) → length sets ≤ n → at ≡ leading e sets → at < length sets → (get_or sets at d).epoch ≡ e
    → 0 < fresh es cs (get_or sets at d).cells → (of : Message → List E) (m : Message) → of m ≡ cs → (before : List Arrival) → sets ≡ take n (kept es of n before) → class_of es of n (At (Some e) m) before ≡ TakenClass
fresh-taken {E = E} es n e at cs d sets small place l same more of m k before h =
    let b : List E = (get_or sets at d).cells in
    let there : get_or sets at d ≡ get_or sets (leading e sets) d = ap (λ t. get_or sets t d) place in
    let found : cells_at e sets ≡ Some b = found-cells e d sets (omega arith) (ap (λ (t : EpochSetView E). t.epoch) (sym there) ∙ same) ∙ ap (λ (t : EpochSetView E). Some t.cells) (sym there) in
    let inside : leadingN e (epochs before) < n = sets-open es of n e sets before h (omega arith) in
    class-is es of n e m before TakenClass (late-false n e m before inside)
    (ap (class_of_cells es (of m)) (kept-found es of n e b sets before h found) ∙ cells-taken es (of m) b (fresh es cs b) (ap (λ t. fresh es t b) (sym k)) more)

-- a message opens its epoch
pub new-taken : {E S : Type 0} (es : Entries E S) (n e at : ℕ) (cs : List E) (d : EpochSetView E) (sets : List (EpochSetView E)) → EpochsFall sets → length sets ≤ n → at ≡ leading e sets → at ≢ n → (at < length sets → (get_or sets at d).epoch ≢ e)
    → (of : Message → List E) (m : Message) → of m ≡ cs → (before : List Arrival) → sets ≡ take n (kept es of n before) → class_of es of n (At (Some e) m) before ≡ TakenClass
new-taken es n e at cs d sets f small place other absent of m k before h =
    let l : leading e sets ≤ length sets = leading-length e sets in
    let less : leading e sets < n = omega arith in
    let none : cells_at e sets ≡ None = absent-cells e d sets f (λ l q. absent (omega arith) (ap (λ t. (get_or sets t d).epoch) place ∙ q)) in
    class-is es of n e m before TakenClass (late-false n e m before (sets-open es of n e sets before h less)) (ap (class_of_cells es (of m)) (kept-none es of n e sets before h less none))

split-parts : {E : Type 0} (n : ℕ) (all front back : List (EpochSetView E)) → all ≡ front ++ back → length front ≡ min n (length all) → (take n all ≡ front) × (drop n all ≡ back)
split-parts {E = E} n all front back e l = elim (cases_lt (length all) n) [
  | inl less ↦
      let q : length all ≡ length front + length back = ap length e ∙ length-append front back in
      let none : back ≡ [] = no-length back (omega arith) in
      let same : all ≡ front = e ∙ ap (λ t. front ++ t) none ∙ append-nil front in
      ((whole n all (omega arith)).0 ∙ same, (whole n all (omega arith)).1 ∙ sym none)
  | inr over ↦ parts n all front back e (omega arith)
]
  where
    no-length : (xs : List (EpochSetView E)) → length xs ≡ 0 → xs ≡ []
    no-length [] h = refl
    no-length (x ∷ xs) h = absurd (omega arith)

open-below : {E S : Type 0} (count : ℕ) (found : List S) (offer : Outcome E S) (new : List (EpochSetView E)) → IsAnswerOf count found offer → ClosesBelow offer new
open-below count found Late new a = absurd a
open-below count found (Taken None) new a = tt
open-below count found (Taken (Some s)) new a = let q = a.1 in cc
open-below count found Conflict new a = tt
open-below count found Repeat new a = tt

open-answers : {E S : Type 0} (es : Entries E S) (of : Message → List E) (n e : ℕ) (m : Message) (before : List Arrival) (new : List (EpochSetView E)) (b : List E) (count : ℕ) (found : List S) (offer : Outcome E S) → OpenParts es of n e m before new b
    → count ≡ fresh es (of m) b → found ≡ conflicts es (of m) b → IsAnswerOf count found offer → IsRightAnswer es of n (At (Some e) m) before offer found
open-answers es of n e m before new b count found Late p c f a = absurd a
open-answers es of n e m before new b count found (Taken out) p c f a =
    (p.class TakenClass (cells-taken es (of m) b count c a.0), f ∙ p.same, p.joins.closing ∙ ap (λ o. option_to_list o ++ closed es of n before) (sym a.1))
open-answers es of n e m before new b count found Conflict p c f a =
    (p.class ConflictClass (cells-stale es (of m) b count c (omega (arith, a.0)) ∙ by-some (conflicts es (of m) b) (λ z. a.1 (f ∙ z))), f ∙ p.same, p.joins.closing)
open-answers es of n e m before new b count found Repeat p c f a =
    (p.class RepeatClass (cells-stale es (of m) b count c (omega (arith, a.0)) ∙ by-none (conflicts es (of m) b) (sym f ∙ a.1)), a.1, p.joins.closing)

pub open-branch : {E S : Type 0} (es : Entries E S) (n e at : ℕ) (cs : List E) (d : EpochSetView E) (sets new : List (EpochSetView E)) (count : ℕ) (found : List S) (offer : Outcome E S) → EpochsFall sets → length sets ≤ n
    → at ≡ leading e sets → at < length sets → (get_or sets at d).epoch ≡ e → new ≡ set sets at (joined es cs (get_or sets at d))
    → count ≡ fresh es cs (get_or sets at d).cells → found ≡ conflicts es cs (get_or sets at d).cells → IsAnswerOf count found offer → AddsCells es n e cs sets new offer found
open-branch {E = E} es n e at cs d sets new count found offer f small place l same is c g a =
    let s : OpenStep es n e cs sets new (get_or sets at d).cells = open-step es n e at cs d sets new f small place l same is in
    record {
      len = s.len;
      falls = s.falls;
      answer = λ of m k before h.
          let s' : OpenStep es n e (of m) sets new (get_or sets at d).cells = subst (λ (t : List E). OpenStep es n e t sets new (get_or sets at d).cells) (sym k) s in
          let p : OpenParts es of n e m before new (get_or sets at d).cells = open-parts es of n e m sets new (get_or sets at d).cells before s' h in
          (open-answers es of n e m before new (get_or sets at d).cells count found offer p (c ∙ ap (λ t. fresh es t (get_or sets at d).cells) (sym k)) (g ∙ ap (λ t. conflicts es t (get_or sets at d).cells) (sym k)) a, p.joins.holds);
      below = open-below count found offer new a;
      least_closes = open-least n count found offer sets a;
      least = λ full. (
        s.same_len ∙ full,
        λ x h.
            let r : AtLeast x sets = recursion_from_All (λ (t : EpochSetView E). x ≤ t.epoch) sets h in
            let w : AtLeast x (with_arrival es e cs sets) = least-with es x e cs sets (least-of x e sets (omega arith) r) r in
            All-from_recursion (λ (t : EpochSetView E). x ≤ t.epoch) new (subst (AtLeast x) (sym s.put) w),
      );
    }

pub late-branch : {E S : Type 0} (es : Entries E S) (n e at : ℕ) (cs : List E) (sets : List (EpochSetView E)) → EpochsFall sets → length sets ≤ n → at ≡ leading e sets → at ≡ n → AddsCells es n e cs sets sets Late []
late-branch es n e at cs sets f small place full =
    record {
      len = small;
      falls = f;
      answer = λ of m k before h. let l = offer-late es of n e m sets before h (sym place ∙ full) in ((class-late es of n e m before l.0, refl, l.2), l.1);
      below = tt;
      least_closes = tt;
      least = λ all. (all, λ x h. h);
    }

pub new-branch : {E S : Type 0} (es : Entries E S) (n e at : ℕ) (cs : List E) (d : EpochSetView E) (sets items new : List (EpochSetView E)) (closes : Option (EpochSetView E)) (found : List S) → EpochsFall sets → length sets ≤ n
    → at ≡ leading e sets → at ≢ n → (at < length sets → (get_or sets at d).epoch ≢ e) → items ≡ insert sets at (opened es e cs) → length items ≡ suc (length sets)
    → items ≡ new ++ option_to_list closes → length new ≡ min n (length items) → found ≡ conflicts es cs [] → AddsCells es n e cs sets new (Taken closes) found
new-branch {E = E} {S = S} es n e at cs d sets items new closes found f small place other absent is grew split len g =
    let s : NewStep es n e cs sets items = new-step es n e at cs d sets items f small place other absent is in
    let fall : EpochsFall (new ++ option_to_list closes) = subst EpochsFall split s.falls in
    let both : (take n items ≡ new) × (drop n items ≡ option_to_list closes) = split-parts n items new (option_to_list closes) split len in
    record {
      len = omega arith;
      falls = falls-front new (option_to_list closes) fall;
      answer = λ of m k before h.
          let s' : NewStep es n e (of m) sets items = subst (λ (t : List E). NewStep es n e t sets items) (sym k) s in
          let p : NewParts es of n e m before new closes = new-parts es of n e m sets items new before closes s' h both.0 both.1 in
          ((p.class, g ∙ ap (λ t. conflicts es t []) (sym k) ∙ p.same, p.joins.closing), p.joins.holds);
      below = closes-below S new closes fall;
      least_closes = new-least S n at sets items new (opened es e cs) closes small (let l : leading e sets < n = s.less in omega arith) is grew split len;
      least = λ full. (
        omega arith,
        λ x h.
            let r : AtLeast x sets = recursion_from_All (λ (t : EpochSetView E). x ≤ t.epoch) sets h in
            let l : leading e sets < n = s.less in
            let w : AtLeast x (with_arrival es e cs sets) = least-with es x e cs sets (least-of x e sets (omega arith) r) r in
            All-from_recursion (λ (t : EpochSetView E). x ≤ t.epoch) new (least-front x new (option_to_list closes) (subst (AtLeast x) split (subst (AtLeast x) (sym s.put) w))),
      );
    }

-- what cells answer and leave, as what their message answers and leaves of a window

pub observed-answers : {E S : Type 0} (es : Entries E S) (of : Message → List E) (w : CollectorView E) (e : ℕ) (m : Message) (cs : List E) (new : List (EpochSetView E)) (offer : Outcome E S) (found : List S) → of m ≡ cs → AddsCells es w.places e cs w.sets new offer found
    → AnswersArrival es of w (At (Some e) m) offer found (record w { sets = new })
observed-answers es of w e m cs new offer found is h = λ before r. let p = h.answer of m is before r.sets in (p.0, record { sets = p.1; arp1005 = r.arp1005; arp1006 = r.arp1006 })

pub observed-taken : {E S : Type 0} (es : Entries E S) (of : Message → List E) (w : CollectorView E) (e : ℕ) (m : Message) (cs : List E) → of m ≡ cs → WouldTakeCells es w.places e cs w.sets → WouldBeTaken es of w (At (Some e) m)
observed-taken es of w e m cs is h = λ before r. h of m is before r.sets
