-- The list of all codes, and codes exchanged in it.
use Rattle.std.proofs.Common.{◌≡◌, ◌≢◌, ℕ, zero, suc, ◌<◌, List, length, slice_index_or, arith, refl, sym, ◌∙◌, ap, Bool, true, false, ◌==◌, if◌then◌else◌, inl, inr}
use Rattle.std.specs.Prelude.{AllPairs, Contains}
use Rattle.std.specs.List.{SwappedAt}
use Rattle.std.proofs.lemmas.Bool.{cases_order}
use Rattle.std.proofs.lemmas.Bool.Decides.{nat_tests}
use Rattle.rtk_obs.specs.declared.code.Code.{Code}
use Rattle.rtk_obs.specs.declared.code.Code.TheVariants.{G1C, G1P, G1W, G1S, G1L, G1X, G2C, G2D, G2P, G2W, G2S, G2L, G2X, G5I, G5Q, G5X}
use Rattle.rtk_obs.specs.Code.{place_of, all_codes}
use Rattle.rtk_rinex.specs.Steps.HeaderShown.{AreAllCodes}

in_order : List Code
in_order = all_codes

rank : (i : ℕ) (d : Code) → i < 16 → place_of (slice_index_or in_order i d) ≡ i
unfolding in_order
rank zero d h = refl
rank (suc zero) d h = refl
rank (suc (suc zero)) d h = refl
rank (suc (suc (suc zero))) d h = refl
rank (suc (suc (suc (suc zero)))) d h = refl
rank (suc (suc (suc (suc (suc zero))))) d h = refl
rank (suc (suc (suc (suc (suc (suc zero)))))) d h = refl
rank (suc (suc (suc (suc (suc (suc (suc zero))))))) d h = refl
rank (suc (suc (suc (suc (suc (suc (suc (suc zero)))))))) d h = refl
rank (suc (suc (suc (suc (suc (suc (suc (suc (suc zero))))))))) d h = refl
rank (suc (suc (suc (suc (suc (suc (suc (suc (suc (suc zero)))))))))) d h = refl
rank (suc (suc (suc (suc (suc (suc (suc (suc (suc (suc (suc zero))))))))))) d h = refl
rank (suc (suc (suc (suc (suc (suc (suc (suc (suc (suc (suc (suc zero)))))))))))) d h = refl
rank (suc (suc (suc (suc (suc (suc (suc (suc (suc (suc (suc (suc (suc zero))))))))))))) d h = refl
rank (suc (suc (suc (suc (suc (suc (suc (suc (suc (suc (suc (suc (suc (suc zero)))))))))))))) d h = refl
rank (suc (suc (suc (suc (suc (suc (suc (suc (suc (suc (suc (suc (suc (suc (suc zero))))))))))))))) d h = refl
rank (suc (suc (suc (suc (suc (suc (suc (suc (suc (suc (suc (suc (suc (suc (suc (suc n)))))))))))))))) d h = absurd (omega arith)

distinct : AllPairs (λ a b. a ≢ b) in_order
unfolding in_order
distinct i j d lt within e =
    let same : i ≡ j = sym (rank i d (omega arith)) ∙ ap place_of e ∙ rank j d (omega arith) in
    omega arith

every : (c : Code) → Contains in_order c
unfolding in_order
every G1C = (0, omega arith, refl)
every G1P = (1, omega arith, refl)
every G1W = (2, omega arith, refl)
every G1S = (3, omega arith, refl)
every G1L = (4, omega arith, refl)
every G1X = (5, omega arith, refl)
every G2C = (6, omega arith, refl)
every G2D = (7, omega arith, refl)
every G2P = (8, omega arith, refl)
every G2W = (9, omega arith, refl)
every G2S = (10, omega arith, refl)
every G2L = (11, omega arith, refl)
every G2X = (12, omega arith, refl)
every G5I = (13, omega arith, refl)
every G5Q = (14, omega arith, refl)
every G5X = (15, omega arith, refl)

pub all_in_order : AreAllCodes all_codes
unfolding in_order
all_in_order = record { length = refl; distinct = distinct; every = every }

-- the place at which the code of a place stood before the exchange of a and b
moved : ℕ → ℕ → ℕ → ℕ
moved a b k = if k == a then b else (if k == b then a else k)

moved_back : (a b k : ℕ) → moved a b (moved a b k) ≡ k
unfolding moved
moved_back a b k = grind (arith, nat_tests)

moved_below : (a b k : ℕ) → a < 16 → b < 16 → k < 16 → moved a b k < 16
unfolding moved
moved_below a b k h g l = grind (arith, nat_tests)

read_if : (xs ys : List Code) (a b k : ℕ) (d : Code) (p q : Bool) → (k == a) ≡ p → (k == b) ≡ q → SwappedAt xs ys a b
    → slice_index_or ys k d ≡ slice_index_or xs (if p then b else (if q then a else k)) d
read_if xs ys a b k d true q e f h = let same : k ≡ a = grind (arith, nat_tests) in rw same (h.0 d)
read_if xs ys a b k d false true e f h = let same : k ≡ b = grind (arith, nat_tests) in rw same (h.1 d)
read_if xs ys a b k d false false e f h =
    let other : k ≢ a = grind (arith, nat_tests) in
    let another : k ≢ b = grind (arith, nat_tests) in
    h.2 k d other another

read_moved : (xs ys : List Code) (a b k : ℕ) (d : Code) → SwappedAt xs ys a b → slice_index_or ys k d ≡ slice_index_or xs (moved a b k) d
unfolding moved
read_moved xs ys a b k d h = read_if xs ys a b k d (k == a) (k == b) refl refl h

one_place : (xs : List Code) (i j : ℕ) (d : Code) → AllPairs (λ a b. a ≢ b) xs → i < length xs → j < length xs
    → slice_index_or xs i d ≡ slice_index_or xs j d → i ≡ j
one_place xs i j d h l m e =
    elim (cases_order i j) [
      | inl same ↦ same
      | inr (inl lt) ↦ absurd (h i j d lt m e)
      | inr (inr gt) ↦ absurd (h j i d gt l (sym e))
    ]

pub swapped_all : (xs ys : List Code) (a b : ℕ) → a < 16 → b < 16 → length ys ≡ length xs → SwappedAt xs ys a b → AreAllCodes xs → AreAllCodes ys
swapped_all xs ys a b la lb len h all =
    let long = all.length in record {
      length = len ∙ all.length;
      distinct = λ i j d lt within e.
          let low : i < 16 = omega arith in
          let high : j < 16 = omega arith in
          let from : slice_index_or xs (moved a b i) d ≡ slice_index_or xs (moved a b j) d = sym (read_moved xs ys a b i d h) ∙ e ∙ read_moved xs ys a b j d h in
          let places : moved a b i ≡ moved a b j = one_place xs (moved a b i) (moved a b j) d all.distinct
          (omega (arith, moved_below a b i la lb low)) (omega (arith, moved_below a b j la lb high)) from in
          let same : i ≡ j = sym (moved_back a b i) ∙ ap (moved a b) places ∙ moved_back a b j in
          omega (arith, same, lt);
      every = λ c.
          let old = all.every c in
          let at = moved a b old.0 in
          let below : old.0 < 16 = omega (arith, old.1) in
          (at, omega (arith, moved_below a b old.0 la lb below), read_moved xs ys a b at c h ∙ ap (λ (n : ℕ). slice_index_or xs n c) (moved_back a b old.0) ∙ old.2);
    }
