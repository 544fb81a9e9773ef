-- The largest fall, hour by hour.
use Rattle.std.proofs.Common.{◌≡◌, Bool, true, false, cond, ltb, arith, List, [], ◌∷◌, Option, None, Some, inl, inr, refl, sym, ap, ◌∙◌}
use Rattle.std.proofs.lemmas.Bool.{cases_Bool, lt-ltb, le-ltb, ltb-true, ltb-false}
use Rattle.rtk_quality.specs.Falls.{fall_to, greater_fall, largest_fall_of}
use Rattle.rtk_quality.specs.declared.falls.HourMean.{HourMean}
use Rattle.rtk_quality.specs.declared.falls.Fall.{Fall}

-- the largest of this fall and of those to means that come after this one
abbrev pub largest_from : Option HourMean → Option Fall → List HourMean → Option Fall
largest_from None largest means = greater_fall largest (largest_fall_of means)
largest_from (Some before) largest means = greater_fall largest (largest_fall_of (before ∷ means))

pub none-greater : (largest : Option Fall) → greater_fall largest None ≡ largest
none-greater None = refl
none-greater (Some fall) = refl

-- the first of the greatest of three
greater-three : (a b c : Fall) → greater_fall (Some a) (greater_fall (Some b) (Some c)) ≡ greater_fall (greater_fall (Some a) (Some b)) (Some c)
greater-three a b c =
    elim (cases_Bool (ltb b.by c.by)) [
      | inl less ↦
          let right : greater_fall (Some a) (greater_fall (Some b) (Some c)) ≡ greater_fall (Some a) (Some c) = ap (λ (t : Bool). greater_fall (Some a) (cond t (Some c) (Some b))) less in
          elim (cases_Bool (ltb a.by b.by)) [
            | inl first ↦
                let both : ltb a.by c.by ≡ true = let x = ltb-true b.by c.by less in let y = ltb-true a.by b.by first in lt-ltb a.by c.by (omega (arith, x, y)) in
                right ∙ ap (λ (t : Bool). cond t (Some c) (Some a)) both ∙ sym (ap (λ (t : Bool). cond t (Some c) (Some b)) less)
                ∙ sym (ap (λ (t : Bool). greater_fall (cond t (Some b) (Some a)) (Some c)) first)
            | inr first ↦ right ∙ sym (ap (λ (t : Bool). greater_fall (cond t (Some b) (Some a)) (Some c)) first)
          ]
      | inr not_less ↦
          let right : greater_fall (Some a) (greater_fall (Some b) (Some c)) ≡ greater_fall (Some a) (Some b) = ap (λ (t : Bool). greater_fall (Some a) (cond t (Some c) (Some b))) not_less in
          elim (cases_Bool (ltb a.by b.by)) [
            | inl first ↦
                right ∙ ap (λ (t : Bool). cond t (Some b) (Some a)) first ∙ sym (ap (λ (t : Bool). cond t (Some c) (Some b)) not_less)
                ∙ sym (ap (λ (t : Bool). greater_fall (cond t (Some b) (Some a)) (Some c)) first)
            | inr first ↦
                let neither : ltb a.by c.by ≡ false = let x = ltb-false b.by c.by not_less in let y = ltb-false a.by b.by first in le-ltb a.by c.by (omega (arith, x, y)) in
                right ∙ ap (λ (t : Bool). cond t (Some b) (Some a)) first ∙ sym (ap (λ (t : Bool). cond t (Some c) (Some a)) neither)
                ∙ sym (ap (λ (t : Bool). greater_fall (cond t (Some b) (Some a)) (Some c)) first)
          ]
    ]

greater-assoc : (a b c : Option Fall) → greater_fall a (greater_fall b c) ≡ greater_fall (greater_fall a b) c
greater-assoc None b c = refl
greater-assoc (Some a) None c = refl
greater-assoc (Some a) (Some b) None = sym (none-greater (greater_fall (Some a) (Some b)))
greater-assoc (Some a) (Some b) (Some c) = greater-three a b c

-- one mean more
pub mean-more : (before : Option HourMean) (largest : Option Fall) (mean : HourMean) (means : List HourMean)
    → largest_from before largest (mean ∷ means) ≡ largest_from (Some mean) (greater_fall largest (fall_to mean before)) means
mean-more None largest mean means = sym (ap (λ (f : Option Fall). greater_fall f (largest_fall_of (mean ∷ means))) (none-greater largest))
mean-more (Some before) largest mean means = greater-assoc largest (fall_to mean (Some before)) (largest_fall_of (mean ∷ means))

-- no mean is left
pub means-end : (before : Option HourMean) (largest : Option Fall) → largest_from before largest [] ≡ largest
means-end None largest = none-greater largest
means-end (Some before) largest = none-greater largest
