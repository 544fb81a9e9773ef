-- An observation joins an epoch that is held, or opens one.
use Rattle.std.proofs.Common.{◌≡◌, ◌≢◌, ℕ, zero, suc, ◌<◌, ◌≤◌, Bool, true, false, List, [], ◌∷◌, length, get_or, set, take, drop, Option, None, Some, refl, ap, sym, ◌∙◌, arith}
use Rattle.std.specs.Prelude.{nat_lt, if◌then◌else◌, option_to_list}
use Rattle.std.proofs.lemmas.Bool.{lt-ltb, le-ltb}
use Rattle.std.specs.List.{insert}
use Rattle.rtk_message.specs.declared.any_message.AnyMessage.{AnyMessage as Message}
use Rattle.rtk_collect.specs.EpochSet.{EpochSetView, joined, fresh, conflicts, EpochsFall}
use Rattle.rtk_collect.specs.Arrival.{Arrival, At}
use Rattle.rtk_collect.specs.Late.{late}
use Rattle.rtk_collect.specs.Accepted.{with_arrival, kept, cells_at}
use Rattle.rtk_collect.specs.Steps.OrderedPlaces.{leading}
use Rattle.rtk_collect.specs.Answer.{Class, LateClass, TakenClass, RepeatClass, ConflictClass, class_by, class_of_cells, class_in_time, class_of, conflicts_with, conflicts_of}
use Rattle.rtk_collect.proofs.ArrivalsLemmas.{opened, with_arrival-found, with_arrival-absent, with_arrival-falls, found-cells, absent-cells}
use Rattle.rtk_collect.proofs.JoinsLemmas.{leading-length, Joins, offer-joins, whole, kept-found, kept-none}
use Rattle.rtk_collect.specs.Entries.{Entries}

pub length-set : {E : Type 0} (i : ℕ) (v : EpochSetView E) (xs : List (EpochSetView E)) → length (set xs i v) ≡ length xs
length-set zero v [] = refl
length-set (suc i) v [] = refl
length-set zero v (x ∷ xs) = refl
length-set (suc i) v (x ∷ xs) = ap suc (length-set i v xs)

pub length-insert : {E : Type 0} (v : EpochSetView E) (i : ℕ) (xs : List (EpochSetView E)) → i ≤ length xs → length (insert xs i v) ≡ suc (length xs)
length-insert v zero xs l = refl
length-insert v (suc i) [] l = grind arith
length-insert v (suc i) (x ∷ xs) l = ap suc (length-insert v i xs (omega arith))

-- an epoch that is held, after the cells of a message
pub record OpenStep {E S : Type 0} (es : Entries E S) (n e : ℕ) (cs : List E) (sets new : List (EpochSetView E)) (b : List E) : Type 0 where
  pub put : new ≡ with_arrival es e cs sets
  pub falls : EpochsFall new
  pub len : length new ≤ n
  pub same_len : length new ≡ length sets
  pub less : leading e sets < n
  pub cells : cells_at e sets ≡ Some b

pub open-step : {E S : Type 0} (es : Entries E S) (n e at : ℕ) (cs : List E) (d : EpochSetView E) (sets new : List (EpochSetView E)) → EpochsFall sets → length sets ≤ n → at ≡ leading e sets → at < length sets
    → (get_or sets at d).epoch ≡ e → new ≡ set sets at (joined es cs (get_or sets at d)) → OpenStep es n e cs sets new (get_or sets at d).cells
open-step {E = E} es n e at cs d sets new f small place l same is =
    let l' : leading e sets < length sets = omega arith in
    let there : get_or sets at d ≡ get_or sets (leading e sets) d = ap (λ t. get_or sets t d) place in
    let same' : (get_or sets (leading e sets) d).epoch ≡ e = ap (λ (t : EpochSetView E). t.epoch) (sym there) ∙ same in
    let put : new ≡ with_arrival es e cs sets = is ∙ ap (λ t. set sets t (joined es cs (get_or sets t d))) place ∙ sym (with_arrival-found es e cs d sets l' same') in
    record {
      put = put;
      falls = rw put (with_arrival-falls es e cs sets f);
      len = rw (is, length-set) small;
      same_len = rw (is, length-set) refl;
      less = omega arith;
      cells = found-cells e d sets l' same' ∙ ap (λ (t : EpochSetView E). Some t.cells) (sym there);
    }

pub class-taken : {E S : Type 0} (es : Entries E S) (of : Message → List E) (n e : ℕ) (m : Message) (before : List Arrival) → late n (At (Some e) m) before ≡ false → class_in_time es of n (At (Some e) m) before ≡ TakenClass → class_of es of n (At (Some e) m) before ≡ TakenClass
class-taken es of n e m before h k = ap (λ (b : Bool). if b then LateClass else class_in_time es of n (At (Some e) m) before) h ∙ k

pub class-is : {E S : Type 0} (es : Entries E S) (of : Message → List E) (n e : ℕ) (m : Message) (before : List Arrival) (c : Class) → late n (At (Some e) m) before ≡ false → class_of_cells es (of m) (cells_at e (kept es of n before)) ≡ c → class_of es of n (At (Some e) m) before ≡ c
class-is es of n e m before c h k = ap (λ (b : Bool). if b then LateClass else class_in_time es of n (At (Some e) m) before) h ∙ k

pub class-late : {E S : Type 0} (es : Entries E S) (of : Message → List E) (n e : ℕ) (m : Message) (before : List Arrival) → late n (At (Some e) m) before ≡ true → class_of es of n (At (Some e) m) before ≡ LateClass
class-late es of n e m before h = ap (λ (b : Bool). if b then LateClass else class_in_time es of n (At (Some e) m) before) h

-- the class of cells, by how many are new and which conflict
pub cells-taken : {E S : Type 0} (es : Entries E S) (cs b : List E) (f : ℕ) → f ≡ fresh es cs b → 0 < f → class_of_cells es cs (Some b) ≡ TakenClass
cells-taken es cs b f is h = ap (λ (t : ℕ). if nat_lt 0 t then TakenClass else class_by (conflicts es cs b)) (sym is) ∙ ap (λ (t : Bool). if t then TakenClass else class_by (conflicts es cs b)) (lt-ltb 0 f h)

pub cells-stale : {E S : Type 0} (es : Entries E S) (cs b : List E) (f : ℕ) → f ≡ fresh es cs b → f ≤ 0 → class_of_cells es cs (Some b) ≡ class_by (conflicts es cs b)
cells-stale es cs b f is h = ap (λ (t : ℕ). if nat_lt 0 t then TakenClass else class_by (conflicts es cs b)) (sym is) ∙ ap (λ (t : Bool). if t then TakenClass else class_by (conflicts es cs b)) (le-ltb 0 f h)

pub by-none : {S : Type 0} (cs : List S) → cs ≡ [] → class_by cs ≡ RepeatClass
by-none [] h = refl
by-none (c ∷ cs) h = cc

pub by-some : {S : Type 0} (cs : List S) → cs ≢ [] → class_by cs ≡ ConflictClass
by-some [] h = absurd (h refl)
by-some (c ∷ cs) h = refl

-- what the answer says of what is kept
pub record OpenParts {E S : Type 0} (es : Entries E S) (of : Message → List E) (n e : ℕ) (m : Message) (before : List Arrival) (new : List (EpochSetView E)) (b : List E) : Type 0 where
  pub joins : Joins es of n e m before new None
  pub class : (c : Class) → class_of_cells es (of m) (Some b) ≡ c → class_of es of n (At (Some e) m) before ≡ c
  pub same : conflicts es (of m) b ≡ conflicts_of es of n (At (Some e) m) before

pub open-parts : {E S : Type 0} (es : Entries E S) (of : Message → List E) (n e : ℕ) (m : Message) (sets new : List (EpochSetView E)) (b : List E) (before : List Arrival) → OpenStep es n e (of m) sets new b → sets ≡ take n (kept es of n before) → OpenParts es of n e m before new b
open-parts es of n e m sets new b before s h =
    let k : cells_at e (kept es of n before) ≡ Some b = kept-found es of n e b sets before h s.cells in
    let j : Joins es of n e m before new None = offer-joins es of n e m sets new new before None h s.less s.put (whole n new s.len).0 (whole n new s.len).1 in
    record {
      joins = j;
      class = λ c p. class-is es of n e m before c j.not_late (ap (class_of_cells es (of m)) k ∙ p);
      same = ap (conflicts_with es (of m)) (sym k);
    }

-- an epoch that is not held yet
pub record NewStep {E S : Type 0} (es : Entries E S) (n e : ℕ) (cs : List E) (sets items : List (EpochSetView E)) : Type 0 where
  pub put : items ≡ with_arrival es e cs sets
  pub falls : EpochsFall items
  pub less : leading e sets < n
  pub none : cells_at e sets ≡ None

pub new-step : {E S : Type 0} (es : Entries E S) (n e at : ℕ) (cs : List E) (d : EpochSetView E) (sets items : List (EpochSetView E)) → EpochsFall sets → length sets ≤ n → at ≡ leading e sets → at ≢ n
    → (at < length sets → (get_or sets at d).epoch ≢ e) → items ≡ insert sets at (opened es e cs) → NewStep es n e cs sets items
new-step es n e at cs d sets items f small place other absent is =
    let none : cells_at e sets ≡ None = absent-cells e d sets f (λ l q. absent (omega arith) (ap (λ t. (get_or sets t d).epoch) place ∙ q)) in
    let put : items ≡ with_arrival es e cs sets = is ∙ ap (λ t. insert sets t (opened es e cs)) place ∙ sym (with_arrival-absent es e cs sets none) in
    let l : leading e sets ≤ length sets = leading-length e sets in
    record {
      put = put;
      falls = rw put (with_arrival-falls es e cs sets f);
      less = omega arith;
      none = none;
    }

pub record NewParts {E S : Type 0} (es : Entries E S) (of : Message → List E) (n e : ℕ) (m : Message) (before : List Arrival) (new : List (EpochSetView E)) (closes : Option (EpochSetView E)) : Type 0 where
  pub joins : Joins es of n e m before new closes
  pub class : class_of es of n (At (Some e) m) before ≡ TakenClass
  pub same : conflicts es (of m) [] ≡ conflicts_of es of n (At (Some e) m) before

pub new-parts : {E S : Type 0} (es : Entries E S) (of : Message → List E) (n e : ℕ) (m : Message) (sets items new : List (EpochSetView E)) (before : List Arrival) (closes : Option (EpochSetView E)) → NewStep es n e (of m) sets items → sets ≡ take n (kept es of n before)
    → take n items ≡ new → drop n items ≡ option_to_list closes → NewParts es of n e m before new closes
new-parts es of n e m sets items new before closes s h front back =
    let k : cells_at e (kept es of n before) ≡ None = kept-none es of n e sets before h s.less s.none in
    let j : Joins es of n e m before new closes = offer-joins es of n e m sets items new before closes h s.less s.put front back in
    record {
      joins = j;
      class = class-is es of n e m before TakenClass j.not_late (ap (class_of_cells es (of m)) k);
      same = ap (conflicts_with es (of m)) (sym k);
    }
