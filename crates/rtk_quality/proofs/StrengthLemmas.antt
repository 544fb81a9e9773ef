-- The strengths of rows, one after another.
use Rattle.std.proofs.Common.{◌≡◌, ◌<◌, ◌≤◌, ◌+◌, ◌⊎◌, inl, inr, ℕ, List, [], ◌∷◌, length, drop, get_or, refl, ap, ◌∙◌}
use Rattle.std.proofs.lemmas.List.{drop_more, drop_all}
use Rattle.rtk_quality.specs.Strengths.{band_in_name}
use Rattle.rtk_obs.specs.declared.any_code.AnyCode.{AnyCode}
use Rattle.rtk_rinex.specs.declared.epoch_table.Observed.{Observed}
use Rattle.rtk_quality.specs.Steps.Noted.{with_strength, with_row}
use Rattle.rtk_quality.specs.declared.strengths.Strengths.{Strengths}

-- one code more of a row
pub code-more : (listed : List AnyCode) (os : List Observed) (i : ℕ) (d : AnyCode) (o : Observed) (s : Strengths) → i < length listed → i < length os
    → with_row (drop i listed) (drop i os) s
    ≡ with_row (drop (i + 1) listed) (drop (i + 1) os) (with_strength (band_in_name (get_or listed i d)) (get_or os i o).strength_millidbhz s)
code-more listed os i d o s one other =
    ap (λ (cs : List AnyCode). with_row cs (drop i os) s) (drop_more listed i d one)
    ∙ ap (λ (xs : List Observed). with_row (get_or listed i d ∷ drop (i + 1) listed) xs s) (drop_more os i o other)

-- no code is left, or nothing is observed
none-left : (listed : List AnyCode) (s : Strengths) → with_row listed [] s ≡ s
none-left [] s = refl
none-left (c ∷ cs) s = refl

pub row-end : (listed : List AnyCode) (os : List Observed) (i : ℕ) (s : Strengths) → (length listed ≤ i) ⊎ (length os ≤ i) → with_row (drop i listed) (drop i os) s ≡ s
row-end listed os i s ends = elim ends [
  | inl no_code ↦ ap (λ (cs : List AnyCode). with_row cs (drop i os) s) (drop_all i listed no_code)
  | inr no_more ↦ ap (λ (xs : List Observed). with_row (drop i listed) xs s) (drop_all i os no_more) ∙ none-left (drop i listed) s
]
