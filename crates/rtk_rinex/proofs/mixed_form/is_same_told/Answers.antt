use Rattle.std.proofs.Common.{◌≡◌, ◌∙◌, refl, sym, ap, ℕ, ℤ, List, Option, Some, None}
use Rattle.std.specs.Bool.{Decides}
use Rattle.std.specs.Option.{option_eq}
use Rattle.std.specs.Ordering.{int_eq}
use Rattle.std.specs.Cmp.Lexicographic.{pointwise}
use Rattle.std.proofs.lemmas.Bool.{eqb-true}
use Rattle.std.proofs.lemmas.Bool.Decides.{Decides-int_eq}
use Rattle.std.proofs.lemmas.Slice.Eq.{slice_eq-Decides}
use Rattle.rtk_rinex.specs.MixedHead.{GlonassView}
use Rattle.rtk_rinex.proofs.PairsLemmas.{both}
use Rattle.rtk_rinex.proofs.mixed_form.is_same_told.Goals as goal

same_channel : (a b : Option ℤ) → Decides (option_eq int_eq a b) (a ≡ b)
same_channel None None = (λ e. refl, λ e. refl)
same_channel None (Some y) = (λ e. cc, λ e. cc)
same_channel (Some x) None = (λ e. cc, λ e. cc)
same_channel (Some x) (Some y) = (λ e. ap Some ((Decides-int_eq x y).0 e), λ e. (Decides-int_eq x y).1 (let same : x ≡ y = cc in same))

abbrev view_with : List (Option ℤ) → ℕ → GlonassView
view_with ks n = record { channels = ks; leap_seconds = n }

same_view : (g h : GlonassView) → g.channels ≡ h.channels → g.leap_seconds ≡ h.leap_seconds → g ≡ h
same_view g h e f = ap (λ (ks : List (Option ℤ)). view_with ks g.leap_seconds) e ∙ ap (λ (n : ℕ). view_with h.channels n) f

pub returns-in-Some-Some : goal.returns-in-Some-Some
returns-in-Some-Some c = λ e.
    let g = c.in-Some-Some.told in
    let h = c.in-Some-Some.other in
    let parts = both _ _ (sym c.eq.ensures ∙ e) in
    let channels : g.channels ≡ h.channels = (slice_eq-Decides same_channel g.channels h.channels (pointwise (option_eq int_eq) g.channels h.channels) refl).0 parts.0 in
    c.in-Some-Some.is-0 ∙ ap Some (same_view g h channels (eqb-true g.leap_seconds h.leap_seconds parts.1)) ∙ sym c.in-Some-Some.is-1
