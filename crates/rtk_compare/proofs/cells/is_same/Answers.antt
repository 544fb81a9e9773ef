use Rattle.std.proofs.Common.{◌≡◌, ◌∙◌, refl, sym, ap, ℕ, ℤ, Bool, true, false, ◌&&◌, Option, Some, None}
use Rattle.std.specs.Option.{option_eq}
use Rattle.std.proofs.lemmas.Bool.{eqb-true}
use Rattle.std.proofs.lemmas.Bool.Decides.{Decides-int_eq}
use Rattle.std.specs.Ordering.{int_eq}
use Rattle.std.specs.Prelude.{nat_eq}
use mathlib.Core.Bool.{beq}
use Rattle.rtk_rinex.specs.declared.epoch_table.Observed.{Observed}
use Rattle.rtk_compare.proofs.cells.is_same.Goals as goal

both : (a b : Bool) → (a && b) ≡ true → (a ≡ true) × (b ≡ true)
both true b e = (refl, e)
both false b e = absurd cc

same_mark : (a b : Bool) → beq a b ≡ true → a ≡ b
same_mark true true e = refl
same_mark true false e = absurd cc
same_mark false true e = absurd cc
same_mark false false e = refl

same_option : {A : Type 0} (eq : A → A → Bool) → ((x y : A) → eq x y ≡ true → x ≡ y) → (a b : Option A) → option_eq eq a b ≡ true → a ≡ b
same_option eq same None None e = refl
same_option eq same None (Some y) e = absurd cc
same_option eq same (Some x) None e = absurd cc
same_option eq same (Some x) (Some y) e = ap Some (same x y e)

abbrev observed_with : Option ℤ → Option ℤ → Option ℤ → Option ℕ → Bool → Bool → Observed
observed_with range phase shift strength slip half =
    record { range_mm = range; phase_millicycles = phase; doppler_millihertz = shift; strength_millidbhz = strength; slip = slip; half = half }

same_observed : (r r₂ p p₂ d d₂ : Option ℤ) (s s₂ : Option ℕ) (a a₂ b b₂ : Bool) → r ≡ r₂ → p ≡ p₂ → d ≡ d₂ → s ≡ s₂ → a ≡ a₂ → b ≡ b₂
    → observed_with r p d s a b ≡ observed_with r₂ p₂ d₂ s₂ a₂ b₂
same_observed r r₂ p p₂ d d₂ s s₂ a a₂ b b₂ e₁ e₂ e₃ e₄ e₅ e₆ = cc

pub returns : goal.returns
returns c = λ e.
    let o = c.args.old.now in
    let n = c.args.new.now in
    let range = both _ _ (sym c.eq.ensures ∙ e) in
    let phase = both _ _ range.1 in
    let shift = both _ _ phase.1 in
    let strength = both _ _ shift.1 in
    let marks = both (beq o.slip n.slip) (beq o.half n.half) strength.1 in
    let whole : (x y : ℤ) → int_eq x y ≡ true → x ≡ y = λ x y is. (Decides-int_eq x y).0 is in
    same_observed o.range_mm n.range_mm o.phase_millicycles n.phase_millicycles o.doppler_millihertz n.doppler_millihertz o.strength_millidbhz n.strength_millidbhz o.slip n.slip o.half n.half
    (same_option int_eq whole o.range_mm n.range_mm range.0) (same_option int_eq whole o.phase_millicycles n.phase_millicycles phase.0)
    (same_option int_eq whole o.doppler_millihertz n.doppler_millihertz shift.0)
    (same_option nat_eq (λ x y is. eqb-true x y is) o.strength_millidbhz n.strength_millidbhz strength.0)
    (same_mark o.slip n.slip marks.0) (same_mark o.half n.half marks.1)
