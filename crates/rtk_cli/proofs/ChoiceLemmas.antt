-- The satellites that the words of `chart` choose.
use Rattle.std.proofs.Common.{◌≡◌, ℕ, ◌+◌, ◌-◌, ◌<◌, Bool, false, List, length, set, get_or, inl, inr, sym, ap, ◌∙◌, get_or-set_same, get_or-set_other, arith}
use Rattle.std.proofs.lemmas.Bool.{cases_eq}
use Rattle.rtk_obs.specs.SatelliteIndex.{IsSatelliteIndex}

-- one place more is told
pub named-more : (named : ℕ → Bool) (places : List Bool) (k : ℕ) (here : Bool) → k < length places → here ≡ named (k + 1)
    → ((n : ℕ) → n < k → get_or places n false ≡ named (n + 1)) → (n : ℕ) → n < k + 1 → get_or (set places k here) n false ≡ named (n + 1)
named-more named places k here within is told n lt = elim (cases_eq n k) [
  | inl same ↦ ap (λ (m : ℕ). get_or (set places k here) m false) same ∙ get_or-set_same places k here false within ∙ is ∙ ap (λ (m : ℕ). named (m + 1)) (sym same)
  | inr other ↦ get_or-set_other places k n here false other ∙ told n (omega (arith, lt, other))
]

-- the satellite of each place is told
pub named-all : (named : ℕ → Bool) (places : List Bool) → ((n : ℕ) → n < 221 → get_or places n false ≡ named (n + 1))
    → (i : ℕ) → IsSatelliteIndex i → get_or places (i - 1) false ≡ named i
named-all named places told i (least, most) =
    let back : i - 1 + 1 ≡ i = omega (arith, least) in
    told (i - 1) (omega (arith, least, most)) ∙ ap named back
