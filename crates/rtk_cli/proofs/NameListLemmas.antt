-- Lists of names of one width, read from the front.
use Rattle.std.proofs.Common.{◌≡◌, ◌≢◌, ℕ, suc, ◌<◌, List, [], ◌∷◌, ◌++◌, length, take, drop, get_or, arith, sym, ap, ◌∙◌, subst, append_assoc, length-append}
use Rattle.std.specs.Prelude.{All}
use Rattle.std.proofs.Math.Seq.{take-append_seam, drop-append_seam}
use Rattle.rtk_cli.specs.Steps.NameList.{comma_names}

-- names of one width
pub record Naming (N : Type 0) : Type 0 where
  pub name : N → List ℕ
  pub width : ℕ
  pub same : (n : N) → length (name n) ≡ width

-- the first name of a list, and what follows it
take-name : {N : Type 0} (g : Naming N) (n : N) (after : List ℕ) → take g.width (g.name n ++ after) ≡ g.name n
take-name g n after = ap (λ (k : ℕ). take k (g.name n ++ after)) (sym (g.same n)) ∙ take-append_seam (g.name n) after

drop-name : {N : Type 0} (g : Naming N) (n : N) (after : List ℕ) → drop g.width (g.name n ++ after) ≡ after
drop-name g n after = ap (λ (k : ℕ). drop k (g.name n ++ after)) (sym (g.same n)) ∙ drop-append_seam (g.name n) after

-- the text after a comma is the name of the next one, and the further names
pub record Next {N : Type 0} (Good : N → Type 0) (g : Naming N) (rest : List ℕ) : Type 0 where
  pub one : N
  pub good : Good one
  pub more : List N
  pub split : rest ≡ g.name one ++ comma_names g.name more

-- after the names that were read stands the next one, if the text is a list at all
pub next-of : {N : Type 0} (Good : N → Type 0) (g : Naming N) (done listed : List N) (rest : List ℕ)
    → All Good listed → comma_names g.name done ++ 44 ∷ rest ≡ comma_names g.name listed → Next Good g rest
next-of Good g [] [] rest good e = absurd (let bad : length (44 ∷ rest) ≡ 0 = ap length e in omega (arith, bad))
next-of Good g [] (n ∷ more) rest good e = record { one = n; good = good 0 n (omega arith); more = more; split = ap (λ (t : List ℕ). drop 1 t) e }
next-of Good g (d ∷ done) [] rest good e = absurd (let bad : suc (length ((g.name d ++ comma_names g.name done) ++ 44 ∷ rest)) ≡ 0 = ap length e in omega (arith, bad))
next-of Good g (d ∷ done) (n ∷ more) rest good e =
    next-of Good g done more rest (λ i x lt. good (suc i) x (omega (arith, lt)))
    (sym (drop-name g d (comma_names g.name done ++ 44 ∷ rest)) ∙ ap (λ (t : List ℕ). drop g.width t) (sym (append_assoc (g.name d) (comma_names g.name done) (44 ∷ rest)) ∙ ap (λ (t : List ℕ). drop 1 t) e)
    ∙ drop-name g n (comma_names g.name more))

-- what the next name is not: shorter than a name, no name, or followed by another character than a
-- comma
pub no-short : {N : Type 0} (Good : N → Type 0) (g : Naming N) (rest : List ℕ) → length rest < g.width → Next Good g rest → ⊥
no-short Good g rest short n = omega (arith, short, ap length n.split, length-append (g.name n.one) (comma_names g.name n.more), g.same n.one)

pub no-stranger : {N : Type 0} (Good : N → Type 0) (g : Naming N) (rest text : List ℕ) → text ≡ take g.width rest → ((n : N) → Good n → text ≢ g.name n) → Next Good g rest → ⊥
no-stranger Good g rest text e none n = none n.one n.good (e ∙ ap (λ (t : List ℕ). take g.width t) n.split ∙ take-name g n.one (comma_names g.name n.more))

first-comma : {N : Type 0} (name : N → List ℕ) (more : List N) (x : ℕ) (xs : List ℕ) → x ∷ xs ≡ comma_names name more → x ≡ 44
first-comma name [] x xs e = absurd (let bad : length (x ∷ xs) ≡ 0 = ap length e in omega (arith, bad))
first-comma name (n ∷ more) x xs e = ap (λ (t : List ℕ). get_or t 0 0) e

pub no-other : {N : Type 0} (Good : N → Type 0) (g : Naming N) (rest after next : List ℕ) (x : ℕ) → after ≡ drop g.width rest → after ≡ x ∷ next → x ≢ 44 → Next Good g rest → ⊥
no-other Good g rest after next x e first other n =
    other (first-comma g.name n.more x next (sym first ∙ e ∙ ap (λ (t : List ℕ). drop g.width t) n.split ∙ drop-name g n.one (comma_names g.name n.more)))

-- a text that is the same lists nothing either
pub none-listed : {X : Type 0} (Lists : List ℕ → X → Type 0) (written text : List ℕ) → text ≡ written → ((listed : X) → ¬ (Lists text listed)) → (listed : X) → ¬ (Lists written listed)
none-listed Lists written text same none listed lists = none listed (subst (λ (t : List ℕ). Lists t listed) (sym same) lists)
