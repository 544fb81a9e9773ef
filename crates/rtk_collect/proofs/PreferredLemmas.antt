-- The first cell of a satellite and code came in an MSM, if such a cell is there.
use Rattle.std.proofs.Common.{◌≡◌, ◌≢◌, ℕ, ◌<◌, List, [], ◌∷◌, None, Some, refl, ap, sym, ◌∙◌, arith, inl, inr}
use Rattle.std.proofs.lemmas.Bool.{eq-eqb, ne_eqb, cases_eq}
use Rattle.rtk_obs.specs.declared.cell.CellSource.{CellSource}
use Rattle.rtk_obs.specs.declared.cell.CellSource.TheVariants.{Legacy, Msm}
use Rattle.rtk_collect.specs.Entries.{Entries}
use Rattle.rtk_collect.specs.Key.{key, key_at, rank_of, KeysRise}
use Rattle.rtk_collect.specs.EpochSet.{cell_under, preferred, cell_of}
use Rattle.rtk_collect.specs.Laws.{FirstIsPreferred}
use Rattle.rtk_collect.proofs.CellsLemmas.{above-none}
use Rattle.rtk_collect.proofs.EqualityLemmas.{rank-less, number-one}

module _ {E S : Type 0} (es : Entries E S) where
  key-is : (p : ℕ) (x : E) → p ≡ es.place x → key_at p (es.cell x).source ≡ key es x
  unfolding key
  key-is p x h = ap (λ t. key_at t (es.cell x).source) h

  key-part : (p : ℕ) (k : CellSource) (x : E) → key_at p k ≡ key es x → p ≡ es.place x
  unfolding key key_at
  key-part p k x h = (number-one p (es.place x) (rank_of k) (rank_of (es.cell x).source) (rank-less k) (rank-less (es.cell x).source) h).0

  msm-before : (p : ℕ) → key_at p Msm < key_at p Legacy
  unfolding key_at
  msm-before p = omega arith

  under-here : (k : ℕ) (x : E) (xs : List E) → k ≡ key es x → cell_under es k (x ∷ xs) ≡ Some x
  under-here k x xs h = rw (eq-eqb k (key es x) h) refl

  under-past : (k : ℕ) (x : E) (xs : List E) → k ≢ key es x → cell_under es k (x ∷ xs) ≡ cell_under es k xs
  under-past k x xs h = rw (ne_eqb k (key es x) h) refl

  here : (p : ℕ) (x : E) (xs : List E) → KeysRise es (x ∷ xs) → p ≡ es.place x → (k : CellSource) → (es.cell x).source ≡ k → Some x ≡ cell_of es p (x ∷ xs)
  here p x xs r one Msm e =
      let q : key_at p Msm ≡ key es x = ap (key_at p) (sym e) ∙ key-is p x one in
      sym (ap (λ o. preferred o (cell_under es (key_at p Legacy) (x ∷ xs))) (under-here (key_at p Msm) x xs q))
  here p x xs r one Legacy e =
      let q : key_at p Legacy ≡ key es x = ap (key_at p) (sym e) ∙ key-is p x one in
      let less : key_at p Msm < key_at p Legacy = msm-before p in
      let none : cell_under es (key_at p Msm) (x ∷ xs) ≡ None = above-none es (key_at p Msm) x xs r (omega arith) in
      sym (ap (λ o. preferred o (cell_under es (key_at p Legacy) (x ∷ xs))) none ∙ under-here (key_at p Legacy) x xs q)

  past : (p : ℕ) (x : E) (xs : List E) → ((k : CellSource) → key_at p k ≢ key es x) → cell_of es p xs ≡ cell_of es p (x ∷ xs)
  past p x xs other =
      sym (ap (λ o. preferred o (cell_under es (key_at p Legacy) (x ∷ xs))) (under-past (key_at p Msm) x xs (other Msm))
      ∙ ap (preferred (cell_under es (key_at p Msm) xs)) (under-past (key_at p Legacy) x xs (other Legacy)))

  pub first-is-preferred : FirstIsPreferred es
  first-is-preferred p [] r = refl
  first-is-preferred p (x ∷ xs) r = elim (cases_eq p (es.place x)) [
    | inl one ↦ rw (eq-eqb p (es.place x) one) (here p x xs r one (es.cell x).source refl)
    | inr other ↦ rw (ne_eqb p (es.place x) other) (first-is-preferred p xs r.1 ∙ past p x xs (λ k q. other (key-part p k x q)))
  ]
