-- What was found, and more differences.
use Rattle.std.proofs.Common.{◌≡◌, ◌+◌, ℕ, zero, suc, Bool, true, false, not, ◌||◌, cond, ltb, List, [], ◌∷◌, ◌++◌, length, take, length-append, append_assoc, append-nil, refl, sym, ap, subst, ◌∙◌, arith}
use Rattle.std.specs.Prelude.{min, flat_map}
use Rattle.std.proofs.lemmas.Bool.{lt-ltb, or_left, or_right}
use Rattle.std.proofs.lemmas.List.Elements.{filter-append}
use Rattle.std.proofs.lemmas.List.{flat_map_more}
use Rattle.rtk_tracking.specs.Epochs.{capped}
use Rattle.rtk_compare.specs.declared.difference.Class.{Class}
use Rattle.rtk_compare.specs.declared.difference.Class.TheVariants.{Lost, Changed, Explained}
use Rattle.rtk_compare.specs.declared.difference.What.{What}
use Rattle.rtk_compare.specs.declared.difference.Place.{Place}
use Rattle.rtk_compare.specs.declared.difference.Difference.{Difference}
use Rattle.rtk_compare.specs.declared.findings.Found.{Found}
use Rattle.rtk_compare.specs.declared.findings.Findings.{Findings}
use Rattle.rtk_compare.specs.Cells.{told_if}
use Rattle.rtk_compare.specs.Differences.{is_class, of_class, HasFound, HasFindings, Adds, is_worse}

-- ---- a difference of a class

class-own : (c : Class) → is_class c c ≡ true
class-own Lost = refl
class-own Changed = refl
class-own Explained = refl

-- one more difference, by whether it is of a class
of-more : (c : Class) (ds : List Difference) (d : Difference) (b : Bool) → is_class c d.class ≡ b → of_class c (ds ++ d ∷ []) ≡ of_class c ds ++ cond b (d ∷ []) []
of-more c ds d b is = filter-append (λ (x : Difference). is_class c x.class) ds (d ∷ []) ∙ ap (λ (s : Bool). of_class c ds ++ cond s (d ∷ []) []) is

take-push : {X : Type 0} (n : ℕ) (xs : List X) (x : X) → take n (take n xs ++ x ∷ []) ≡ take n (xs ++ x ∷ [])
take-push zero xs x = refl
take-push (suc n) [] x = refl
take-push (suc n) (y ∷ ys) x = ap (λ (zs : List _). y ∷ zs) (take-push n ys x)

-- a difference of its class is counted, and kept if there is room
pub found-own : {old new : Found} (c : Class) (ds : List Difference) (d : Difference) → c ≡ d.class → HasFound c old ds → new.count ≡ min (old.count + 1) 18_446_744_073_709_551_615
    → new.first.items ≡ take 100 (old.first.items ++ d ∷ []) → HasFound c new (ds ++ d ∷ [])
found-own {old} {new} c ds d is has counted kept =
    let more : of_class c (ds ++ d ∷ []) ≡ of_class c ds ++ d ∷ [] = of-more c ds d true (ap (is_class c) (sym is) ∙ class-own c) in
    let longer : length (of_class c (ds ++ d ∷ [])) ≡ length (of_class c ds) + 1 = ap length more ∙ length-append (of_class c ds) (d ∷ []) in
    let was : old.count ≡ capped (length (of_class c ds)) = has.count in
    record {
      count = omega (arith, longer, was, counted);
      first = kept ∙ ap (λ (xs : List _). take 100 (xs ++ d ∷ [])) has.first ∙ take-push 100 (of_class c ds) d ∙ ap (λ (xs : List _). take 100 xs) (sym more);
    }

-- a difference of another class changes nothing
pub found-other : (c : Class) (found : Found) (ds : List Difference) (d : Difference) → is_class c d.class ≡ false → HasFound c found ds → HasFound c found (ds ++ d ∷ [])
found-other c found ds d other has =
    let same : of_class c (ds ++ d ∷ []) ≡ of_class c ds = of-more c ds d false other ∙ append-nil (of_class c ds) in
    record {
      count = has.count ∙ ap (λ (xs : List _). capped (length xs)) (sym same);
      first = has.first ∙ ap (λ (xs : List _). take 100 xs) (sym same);
    }

-- what a class keeps of one more difference of it
abbrev pub Keeps : Found → Found → Difference → Type 0
Keeps old new d = (c : Class) (ds : List Difference) → c ≡ d.class → HasFound c old ds → HasFound c new (ds ++ d ∷ [])

class-apart : (c : Class) (d : Difference) (e : Class) → d.class ≡ e → is_class c e ≡ false → is_class c d.class ≡ false
class-apart c d e is other = ap (is_class c) is ∙ other

pub adds-lost : (f : Findings) (found : Found) (d : Difference) → d.class ≡ Lost → Keeps f.lost found d → Adds f (record { lost = found; changed = f.changed; explained = f.explained }) (d ∷ [])
adds-lost f found d is keeps = record {
  adds = λ ds has. record {
    lost = keeps Lost ds (sym is) has.lost;
    changed = found-other Changed f.changed ds d (class-apart Changed d Lost is refl) has.changed;
    explained = found-other Explained f.explained ds d (class-apart Explained d Lost is refl) has.explained;
  };
}

pub adds-changed : (f : Findings) (found : Found) (d : Difference) → d.class ≡ Changed → Keeps f.changed found d → Adds f (record { lost = f.lost; changed = found; explained = f.explained }) (d ∷ [])
adds-changed f found d is keeps = record {
  adds = λ ds has. record {
    lost = found-other Lost f.lost ds d (class-apart Lost d Changed is refl) has.lost;
    changed = keeps Changed ds (sym is) has.changed;
    explained = found-other Explained f.explained ds d (class-apart Explained d Changed is refl) has.explained;
  };
}

pub adds-explained : (f : Findings) (found : Found) (d : Difference) → d.class ≡ Explained → Keeps f.explained found d → Adds f (record { lost = f.lost; changed = f.changed; explained = found }) (d ∷ [])
adds-explained f found d is keeps = record {
  adds = λ ds has. record {
    lost = found-other Lost f.lost ds d (class-apart Lost d Explained is refl) has.lost;
    changed = found-other Changed f.changed ds d (class-apart Changed d Explained is refl) has.changed;
    explained = keeps Explained ds (sym is) has.explained;
  };
}

pub push-lost : (f : Findings) (found : Found) (c : Class) (w : What) (p : Place) → c ≡ Lost → Keeps f.lost found (record { class = c; what = w; place = p }) → Adds f (record { lost = found; changed = f.changed; explained = f.explained }) (told_if true c w p)
push-lost f found c w p is keeps = adds-lost f found (record { class = c; what = w; place = p }) is keeps

pub push-changed : (f : Findings) (found : Found) (c : Class) (w : What) (p : Place) → c ≡ Changed → Keeps f.changed found (record { class = c; what = w; place = p }) → Adds f (record { lost = f.lost; changed = found; explained = f.explained }) (told_if true c w p)
push-changed f found c w p is keeps = adds-changed f found (record { class = c; what = w; place = p }) is keeps

pub push-explained : (f : Findings) (found : Found) (c : Class) (w : What) (p : Place) → c ≡ Explained → Keeps f.explained found (record { class = c; what = w; place = p })
    → Adds f (record { lost = f.lost; changed = f.changed; explained = found }) (told_if true c w p)
push-explained f found c w p is keeps = adds-explained f found (record { class = c; what = w; place = p }) is keeps

-- ---- more and more differences

pub adds_none : (f : Findings) → Adds f f []
adds_none f = record { adds = λ ds has. subst (λ (xs : List Difference). HasFindings f xs) (sym (append-nil ds)) has }

pub adds-more : {a b c : Findings} {x y : List Difference} → Adds a b x → Adds b c y → Adds a c (x ++ y)
adds-more {a} {b} {c} {x} {y} first second =
    record { adds = λ ds has. subst (λ (xs : List Difference). HasFindings c xs) (append_assoc ds x y) (second.adds (ds ++ x) (first.adds ds has)) }

pub adds-as : {a b : Findings} {x y : List Difference} → x ≡ y → Adds a b x → Adds a b y
adds-as {a} {b} same adds = subst (λ (xs : List Difference). Adds a b xs) same adds

-- a difference that is told by another test of the same value
pub told : {a b : Findings} (c : Class) (w : What) (p : Place) {s t : Bool} → s ≡ t → Adds a b (told_if s c w p) → Adds a b (told_if t c w p)
told {a} {b} c w p same adds = subst (λ (x : Bool). Adds a b (told_if x c w p)) same adds

pub not-told : (f : Findings) (s : Bool) (c : Class) (w : What) (p : Place) → s ≡ false → Adds f f (told_if s c w p)
not-told f s c w p is = subst (λ (x : Bool). Adds f f (told_if x c w p)) (sym is) (adds_none f)

pub is-told : {a b : Findings} (s : Bool) (c : Class) (w : What) (p : Place) → s ≡ true → Adds a b (told_if true c w p) → Adds a b (told_if s c w p)
is-told {a} {b} s c w p is adds = subst (λ (x : Bool). Adds a b (told_if x c w p)) (sym is) adds

-- ---- the differences of one thing after another

pub adds-each : {A : Type 0} (f : A → List Difference) (xs : List A) (k : ℕ) (x : A) {a b c : Findings} → Adds a b (flat_map f (take k xs)) → Adds b c (f x) → take (k + 1) xs ≡ take k xs ++ x ∷ []
    → Adds a c (flat_map f (take (k + 1) xs))
adds-each f xs k x first second more =
    adds-as (flat_map_more f [] (take k xs) x ∙ ap (flat_map f) (sym more)) (adds-more first second)

-- the same behind other differences
pub adds-after : {A : Type 0} (f : A → List Difference) (front : List Difference) (xs : List A) (k : ℕ) (x : A) {a b c : Findings} → Adds a b (front ++ flat_map f (take k xs)) → Adds b c (f x)
    → take (k + 1) xs ≡ take k xs ++ x ∷ [] → Adds a c (front ++ flat_map f (take (k + 1) xs))
adds-after f front xs k x first second more =
    adds-as (flat_map_more f front (take k xs) x ∙ ap (λ (ys : List _). front ++ flat_map f ys) (sym more)) (adds-more first second)

-- a difference at a place that is this one
pub told-at : {a b : Findings} (c : Class) (w : What) (s : Bool) {p q : Place} → p ≡ q → Adds a b (told_if s c w p) → Adds a b (told_if s c w q)
told-at {a} {b} c w s same adds = subst (λ (x : Place). Adds a b (told_if s c w x)) same adds

-- ---- what is worse

worse-more : (c : Class) (d : Difference) (ls cs : List Difference) (w : Bool) → (ltb 0 (length ls) || ltb 0 (length cs)) ≡ w
    → (ltb 0 (length (cond (is_class Lost c) (d ∷ ls) ls)) || ltb 0 (length (cond (is_class Changed c) (d ∷ cs) cs))) ≡ (not (is_class Explained c) || w)
worse-more Lost d ls cs w is = or_left (ltb 0 (suc (length ls))) (ltb 0 (length cs)) (lt-ltb 0 (suc (length ls)) (omega arith))
worse-more Changed d ls cs w is = or_right (ltb 0 (length ls)) (ltb 0 (suc (length cs))) (lt-ltb 0 (suc (length cs)) (omega arith))
worse-more Explained d ls cs w is = is

worse-is : (ds : List Difference) → (ltb 0 (length (of_class Lost ds)) || ltb 0 (length (of_class Changed ds))) ≡ is_worse ds
worse-is [] = refl
worse-is (d ∷ ds) = worse-more d.class d (of_class Lost ds) (of_class Changed ds) (is_worse ds) (worse-is ds)

some-counted : (n : ℕ) → ltb 0 (capped n) ≡ ltb 0 n
some-counted zero = refl
some-counted (suc n) = lt-ltb 0 (capped (suc n)) (omega arith) ∙ sym (lt-ltb 0 (suc n) (omega arith))

pub counts-worse : (f : Findings) (ds : List Difference) → HasFindings f ds → (ltb 0 f.lost.count || ltb 0 f.changed.count) ≡ is_worse ds
counts-worse f ds has =
    ap (λ (n : ℕ). ltb 0 n || ltb 0 f.changed.count) has.lost.count ∙ ap (λ (n : ℕ). ltb 0 (capped (length (of_class Lost ds))) || ltb 0 n) has.changed.count
    ∙ ap (λ (b : Bool). b || ltb 0 (capped (length (of_class Changed ds)))) (some-counted (length (of_class Lost ds)))
    ∙ ap (λ (b : Bool). ltb 0 (length (of_class Lost ds)) || b) (some-counted (length (of_class Changed ds))) ∙ worse-is ds
