-- Where the codes of a row stand, whose places differ.
use Rattle.std.proofs.Common.{◌≡◌, ◌≢◌, ℕ, zero, suc, ◌+◌, ◌<◌, ◌≤◌, [], ◌∷◌, List, length, take, set, get_or, get_or-set_other, get_or-set_same, refl, sym, ap, subst, ◌∙◌, arith, true, false, Bool, inl, inr}
use Rattle.std.specs.Prelude.{◌||◌, AllPairs, if◌then◌else◌}
use Rattle.std.specs.List.{list_any}
use Rattle.std.proofs.lemmas.Bool.{cases_eq, cond-true, cond-false, eq-eqb, eqb-true, ne_eqb}
use Rattle.std.proofs.lemmas.List.Folds.{list_any_more}
use Rattle.rtk_obs.specs.declared.any_code.AnyCode.{AnyCode}
use Rattle.rtk_obs.specs.declared.any_code.AnyCode.TheVariants.{G1C}
use Rattle.rtk_obs.specs.AnyCode.{place_of}
use Rattle.rtk_rinex.specs.declared.epoch_table.Observed.{Observed}
use Rattle.rtk_convert.specs.Steps.ShownCells.{is_at, with_place}

pub both-false : (a b : Bool) → (a || b) ≡ false → (a ≡ false) × (b ≡ false)
both-false true b h = absurd (cc)
both-false false b h = (refl, h)

or-false : (a b : Bool) → a ≡ false → b ≡ false → (a || b) ≡ false
or-false true b h k = h
or-false false b h k = k

-- a place that no code of the row has changes no row
pub with_place-none : (place : ℕ) (o : Observed) (codes : List AnyCode) (row : List Observed) → list_any (is_at place) codes ≡ false → length row ≡ length codes → with_place place o codes row ≡ row
with_place-none place o [] row h w = refl
with_place-none place o (c ∷ codes) [] h w = absurd (omega arith)
with_place-none place o (c ∷ codes) (x ∷ row) h w =
    let p = both-false (is_at place c) (list_any (is_at place) codes) h in
    ap (λ (y : Observed). y ∷ with_place place o codes row) (cond-false (is_at place c) o x p.0)
    ∙ ap (λ (ys : List Observed). x ∷ ys) (with_place-none place o codes row p.1 (omega arith))

-- no other code has the place of a code of the row
none-of : (place : ℕ) (c : AnyCode) (codes : List AnyCode) → is_at place c ≡ true → ((j : ℕ) (d : AnyCode) → j < length codes → place_of c ≢ place_of (get_or codes j d)) → list_any (is_at place) codes ≡ false
none-of place c [] h ne = refl
none-of place c (e ∷ codes) h ne =
    or-false (is_at place e) (list_any (is_at place) codes)
    (ne_eqb (place_of e) place (λ q. ne 0 e (omega arith) (eqb-true (place_of c) place h ∙ sym q)))
    (none-of place c codes h (λ j d l. ne (suc j) d (omega arith)))

pub with_place-one : (place : ℕ) (o : Observed) (codes : List AnyCode) (row : List Observed) (k : ℕ) → AllPairs (λ a b. place_of a ≢ place_of b) codes → k < length codes → length row ≡ length codes
    → is_at place (get_or codes k G1C) ≡ true → with_place place o codes row ≡ set row k o
with_place-one place o [] row k a l w h = absurd (omega arith)
with_place-one place o (c ∷ codes) [] k a l w h = absurd (omega arith)
with_place-one place o (c ∷ codes) (x ∷ row) zero a l w h =
    ap (λ (y : Observed). y ∷ with_place place o codes row) (cond-true (is_at place c) o x h)
    ∙ ap (λ (ys : List Observed). o ∷ ys) (with_place-none place o codes row (none-of place c codes h (λ j d m. a 0 (suc j) d (omega arith) (omega arith))) (omega arith))
with_place-one place o (c ∷ codes) (x ∷ row) (suc k) a l w h =
    ap (λ (y : Observed). y ∷ with_place place o codes row)
    (cond-false (is_at place c) o x (ne_eqb (place_of c) place (λ q. a 0 (suc k) G1C (omega arith) (omega arith) (q ∙ sym (eqb-true (place_of (get_or codes k G1C)) place h)))))
    ∙ ap (λ (ys : List Observed). x ∷ ys) (with_place-one place o codes row k (λ i j d p q. a (suc i) (suc j) d (omega arith) (omega arith)) (omega arith) (omega arith) h)

-- where the codes of a first part of the row stand
pub record PlacesTo (codes : List AnyCode) (k : ℕ) (columns : List ℕ) (place : ℕ) : Type 0 where
  pub unlisted : length codes ≤ get_or columns place 0 → list_any (is_at place) (take k codes) ≡ false
  pub found : get_or columns place 0 < length codes → is_at place (get_or codes (get_or columns place 0) G1C) ≡ true

pub places-more : (codes : List AnyCode) (k : ℕ) (columns : List ℕ) → k < length codes → place_of (get_or codes k G1C) < length columns → ((place : ℕ) → place < 16 → PlacesTo codes k columns place)
    → (place : ℕ) → place < 16 → PlacesTo codes (k + 1) (set columns (place_of (get_or codes k G1C)) k) place
places-more codes k columns l inside h place low =
    let e : AnyCode = get_or codes k G1C in
    elim (cases_eq (place_of e) place) [
      | inl same ↦
          let at : get_or (set columns (place_of e) k) place 0 ≡ k = subst (λ (i : ℕ). get_or (set columns (place_of e) k) i 0 ≡ k) same (get_or-set_same columns (place_of e) k 0 inside) in
          record {
            unlisted = λ m. absurd (omega arith);
            found = λ m. subst (λ (i : ℕ). is_at place (get_or codes i G1C) ≡ true) (sym at) (eq-eqb (place_of e) place same);
          }
      | inr other ↦
          let at : get_or (set columns (place_of e) k) place 0 ≡ get_or columns place 0 = get_or-set_other columns (place_of e) place k 0 (λ q. other (sym q)) in
          record {
            unlisted = λ m. list_any_more (is_at place) codes k G1C l ∙ or-false (list_any (is_at place) (take k codes)) (is_at place e) ((h place low).unlisted (omega arith)) (ne_eqb (place_of e) place other);
            found = λ m. subst (λ (i : ℕ). is_at place (get_or codes i G1C) ≡ true) (sym at) ((h place low).found (omega arith));
          }
    ]

-- ---- codes with and without Doppler shifts

-- a code that is written without shifts is listed, and the file has none
pub of-plain : (doppler : Bool) (plain count column : ℕ) → plain ≡ (if doppler then 0 else count) → column < plain → (doppler ≡ false) × (column < count)
of-plain true plain count column is less = let none : plain ≡ 0 = is in absurd (omega (arith, none, less))
of-plain false plain count column is less = let all : plain ≡ count = is in (refl, omega (arith, all, less))

-- a listed code that is not is in a file that has shifts
pub of-shifted : (doppler : Bool) (plain count column : ℕ) → plain ≡ (if doppler then 0 else count) → plain ≤ column → column < count → doppler ≡ true
of-shifted true plain count column is other inside = refl
of-shifted false plain count column is other inside = let all : plain ≡ count = is in absurd (omega (arith, all, other, inside))
