-- The codes of one system, and codes exchanged among them.
use Rattle.std.proofs.Common.{◌≡◌, ◌≢◌, ℕ, zero, suc, ◌+◌, ◌<◌, ◌≤◌, List, [], ◌∷◌, ◌++◌, length, take, get_or, slice_index_or, codes, arith, refl, sym, ◌∙◌, ap, subst, Bool, true, false, ◌==◌, ◌&&◌, if◌then◌else◌, inl, inr}
use Rattle.std.specs.Prelude.{AllPairs, Contains}
use Rattle.std.specs.List.{filter, refill, SwappedAt}
use Rattle.std.proofs.lemmas.Bool.{cases_order, eqb-true}
use Rattle.std.proofs.lemmas.Bool.Decides.{Decides-eqb, nat_tests}
use Rattle.std.proofs.lemmas.List.{append-nil, drop_all, get_or-take, length-take, take_all}
use Rattle.std.proofs.lemmas.List.Elements.{filter_passes}
use Rattle.std.proofs.lemmas.List.Kept.{AllPairs-filter}
use Rattle.rtk_obs.specs.declared.any_code.AnyCode.{AnyCode}
use Rattle.rtk_obs.specs.declared.any_code.AnyCode.TheVariants.{G1C, G1P, G1W, G1S, G1L, G1X, G2C, G2D, G2P, G2W, G2S, G2L, G2X, G5I, G5Q, G5X, R1C, R1P, R2C, R2P, E1C, E1B, E1X, E6C, E6B, E6X, E7I, E7Q, E7X, E8I, E8Q, E8X, E5I, E5Q, E5X, C2I, C2Q, C2X, C6I, C6Q, C6X, C7I, C7Q, C7X, C5D, C5P, C5X, C7D, C1D, C1P, C1X, J1C, J6S, J6L, J6X, J2S, J2L, J2X, J5I, J5Q, J5X, J1S, J1L, J1X, S1C, S5I, S5Q, S5X, I5A}
use Rattle.rtk_obs.specs.AnyCode.{number_of, all_any_codes}
use Rattle.rtk_rinex.specs.MixedHead.{letter}
use Rattle.rtk_rinex.specs.MixedHeader.{codes_of}
use Rattle.rtk_rinex.specs.Steps.MixedRoom.{IsSystemLetter, codes_of_letter}
use Rattle.rtk_rinex.specs.Steps.MixedHeaderRead.{AreAllOf}

-- ---- letters

at_letter : (P : ℕ → Type 0) (l k : ℕ) → k < 7 → slice_index_or (codes "GRECJSI") k l ≡ l → P 71 → P 82 → P 69 → P 67 → P 74 → P 83 → P 73 → P l
at_letter P l zero lt e g r x b j s i = subst P e g
at_letter P l (suc zero) lt e g r x b j s i = subst P e r
at_letter P l (suc (suc zero)) lt e g r x b j s i = subst P e x
at_letter P l (suc (suc (suc zero))) lt e g r x b j s i = subst P e b
at_letter P l (suc (suc (suc (suc zero)))) lt e g r x b j s i = subst P e j
at_letter P l (suc (suc (suc (suc (suc zero))))) lt e g r x b j s i = subst P e s
at_letter P l (suc (suc (suc (suc (suc (suc zero)))))) lt e g r x b j s i = subst P e i
at_letter P l (suc (suc (suc (suc (suc (suc (suc k))))))) lt e g r x b j s i = absurd (omega arith)

-- what is so for each letter
pub by_letter : (P : ℕ → Type 0) (l : ℕ) → IsSystemLetter l → P 71 → P 82 → P 69 → P 67 → P 74 → P 83 → P 73 → P l
by_letter P l h g r x b j s i = at_letter P l h.0 h.1 h.2 g r x b j s i

-- ---- all codes

numbered : ℕ → List AnyCode → Bool
numbered n [] = true
numbered n (c ∷ cs) = (number_of c == n) && numbered (suc n) cs

both_true : (a b : Bool) → (a && b) ≡ true → (a ≡ true) × (b ≡ true)
both_true true b e = (refl, e)
both_true false b e = absurd (cc)

number_in : (n : ℕ) (cs : List AnyCode) (i : ℕ) (d : AnyCode) → numbered n cs ≡ true → i < length cs → number_of (get_or cs i d) ≡ n + i
unfolding numbered
number_in n [] i d e lt = absurd (omega arith)
number_in n (c ∷ cs) zero d e lt = let p = both_true (number_of c == n) (numbered (suc n) cs) e in let q = eqb-true (number_of c) n p.0 in omega (arith, q)
number_in n (c ∷ cs) (suc i) d e lt =
    let p = both_true (number_of c == n) (numbered (suc n) cs) e in
    let q = number_in (suc n) cs i d p.1 (omega arith) in
    omega (arith, q)

all_numbered : numbered 0 all_any_codes ≡ true
unfolding numbered
all_numbered = refl

all_distinct : AllPairs (λ c d. c ≢ d) all_any_codes
all_distinct i j d lt within e =
    let a = number_in 0 all_any_codes i d all_numbered (omega (arith, lt, within)) in
    let b = number_in 0 all_any_codes j d all_numbered within in
    let same = ap number_of e in
    omega (arith, a, b, same, lt)

every_code : (c : AnyCode) → Contains all_any_codes c
every_code G1C = (0, omega arith, refl)
every_code G1P = (1, omega arith, refl)
every_code G1W = (2, omega arith, refl)
every_code G1S = (3, omega arith, refl)
every_code G1L = (4, omega arith, refl)
every_code G1X = (5, omega arith, refl)
every_code G2C = (6, omega arith, refl)
every_code G2D = (7, omega arith, refl)
every_code G2P = (8, omega arith, refl)
every_code G2W = (9, omega arith, refl)
every_code G2S = (10, omega arith, refl)
every_code G2L = (11, omega arith, refl)
every_code G2X = (12, omega arith, refl)
every_code G5I = (13, omega arith, refl)
every_code G5Q = (14, omega arith, refl)
every_code G5X = (15, omega arith, refl)
every_code R1C = (16, omega arith, refl)
every_code R1P = (17, omega arith, refl)
every_code R2C = (18, omega arith, refl)
every_code R2P = (19, omega arith, refl)
every_code E1C = (20, omega arith, refl)
every_code E1B = (21, omega arith, refl)
every_code E1X = (22, omega arith, refl)
every_code E6C = (23, omega arith, refl)
every_code E6B = (24, omega arith, refl)
every_code E6X = (25, omega arith, refl)
every_code E7I = (26, omega arith, refl)
every_code E7Q = (27, omega arith, refl)
every_code E7X = (28, omega arith, refl)
every_code E8I = (29, omega arith, refl)
every_code E8Q = (30, omega arith, refl)
every_code E8X = (31, omega arith, refl)
every_code E5I = (32, omega arith, refl)
every_code E5Q = (33, omega arith, refl)
every_code E5X = (34, omega arith, refl)
every_code C2I = (35, omega arith, refl)
every_code C2Q = (36, omega arith, refl)
every_code C2X = (37, omega arith, refl)
every_code C6I = (38, omega arith, refl)
every_code C6Q = (39, omega arith, refl)
every_code C6X = (40, omega arith, refl)
every_code C7I = (41, omega arith, refl)
every_code C7Q = (42, omega arith, refl)
every_code C7X = (43, omega arith, refl)
every_code C5D = (44, omega arith, refl)
every_code C5P = (45, omega arith, refl)
every_code C5X = (46, omega arith, refl)
every_code C7D = (47, omega arith, refl)
every_code C1D = (48, omega arith, refl)
every_code C1P = (49, omega arith, refl)
every_code C1X = (50, omega arith, refl)
every_code J1C = (51, omega arith, refl)
every_code J6S = (52, omega arith, refl)
every_code J6L = (53, omega arith, refl)
every_code J6X = (54, omega arith, refl)
every_code J2S = (55, omega arith, refl)
every_code J2L = (56, omega arith, refl)
every_code J2X = (57, omega arith, refl)
every_code J5I = (58, omega arith, refl)
every_code J5Q = (59, omega arith, refl)
every_code J5X = (60, omega arith, refl)
every_code J1S = (61, omega arith, refl)
every_code J1L = (62, omega arith, refl)
every_code J1X = (63, omega arith, refl)
every_code S1C = (64, omega arith, refl)
every_code S5I = (65, omega arith, refl)
every_code S5Q = (66, omega arith, refl)
every_code S5X = (67, omega arith, refl)
every_code I5A = (68, omega arith, refl)

-- a filter keeps what passes
kept_if : (p : AnyCode → Bool) (x : AnyCode) (xs : List AnyCode) (b : Bool) (c : AnyCode) → Contains (filter p xs) c → Contains (if b then x ∷ filter p xs else filter p xs) c
kept_if p x xs true c h = (suc h.0, omega (arith, h.1), h.2)
kept_if p x xs false c h = h

kept_first : (p : AnyCode → Bool) (x : AnyCode) (xs : List AnyCode) (b : Bool) (c : AnyCode) → b ≡ true → x ≡ c → Contains (if b then x ∷ filter p xs else filter p xs) c
kept_first p x xs true c e f = (0, omega arith, f)
kept_first p x xs false c e f = absurd (cc)

kept_at : (p : AnyCode → Bool) (xs : List AnyCode) (k : ℕ) (c : AnyCode) → k < length xs → get_or xs k c ≡ c → p c ≡ true → Contains (filter p xs) c
kept_at p [] k c lt e h = absurd (omega arith)
kept_at p (x ∷ xs) zero c lt e h = kept_first p x xs (p x) c (ap p e ∙ h) e
kept_at p (x ∷ xs) (suc k) c lt e h = kept_if p x xs (p x) c (kept_at p xs k c (omega arith) e h)

pub all_of_system : (l : ℕ) → IsSystemLetter l → AreAllOf l (codes_of l all_any_codes)
all_of_system l h = record {
  length = by_letter (λ s. length (codes_of s all_any_codes) ≡ codes_of_letter s) l h refl refl refl refl refl refl refl;
  own = λ k d lt. eqb-true _ _ (filter_passes (λ c. letter c == l) all_any_codes k d lt);
  distinct = AllPairs-filter (λ c d. c ≢ d) (λ c. letter c == l) all_any_codes all_distinct;
  every = λ c e. let at = every_code c in kept_at (λ d. letter d == l) all_any_codes at.0 c at.1 at.2 ((Decides-eqb (letter c) l).1 e);
}

pub letter_count : (l : ℕ) → IsSystemLetter l → (1 ≤ codes_of_letter l) × (codes_of_letter l ≤ 16)
letter_count l h =
    by_letter (λ s. (1 ≤ codes_of_letter s) × (codes_of_letter s ≤ 16)) l h
    (omega arith, omega arith) (omega arith, omega arith) (omega arith, omega arith) (omega arith, omega arith) (omega arith, omega arith) (omega arith, omega arith) (omega arith, omega arith)

-- ---- an exchange

-- the place at which the code of a place stood before the exchange of a and b
moved : ℕ → ℕ → ℕ → ℕ
moved a b k = if k == a then b else (if k == b then a else k)

moved_back : (a b k : ℕ) → moved a b (moved a b k) ≡ k
unfolding moved
moved_back a b k = grind (arith, nat_tests)

moved_below : (a b k n : ℕ) → a < n → b < n → k < n → moved a b k < n
unfolding moved
moved_below a b k n h g l = grind (arith, nat_tests)

read_if : (xs ys : List AnyCode) (a b k : ℕ) (d : AnyCode) (p q : Bool) → (k == a) ≡ p → (k == b) ≡ q → SwappedAt xs ys a b
    → slice_index_or ys k d ≡ slice_index_or xs (if p then b else (if q then a else k)) d
read_if xs ys a b k d true q e f h = let same : k ≡ a = grind (arith, nat_tests) in rw same (h.0 d)
read_if xs ys a b k d false true e f h = let same : k ≡ b = grind (arith, nat_tests) in rw same (h.1 d)
read_if xs ys a b k d false false e f h =
    let other : k ≢ a = grind (arith, nat_tests) in
    let another : k ≢ b = grind (arith, nat_tests) in
    h.2 k d other another

read_moved : (xs ys : List AnyCode) (a b k : ℕ) (d : AnyCode) → SwappedAt xs ys a b → slice_index_or ys k d ≡ slice_index_or xs (moved a b k) d
unfolding moved
read_moved xs ys a b k d h = read_if xs ys a b k d (k == a) (k == b) refl refl h

pub one_place : (xs : List AnyCode) (i j : ℕ) (d : AnyCode) → AllPairs (λ a b. a ≢ b) xs → i < length xs → j < length xs → slice_index_or xs i d ≡ slice_index_or xs j d → i ≡ j
one_place xs i j d h l m e =
    elim (cases_order i j) [
      | inl same ↦ same
      | inr (inl lt) ↦ absurd (h i j d lt m e)
      | inr (inr gt) ↦ absurd (h j i d gt l (sym e))
    ]

pub swapped_all : (system : ℕ) (xs ys : List AnyCode) (a b : ℕ) → a < length xs → b < length xs → length ys ≡ length xs → SwappedAt xs ys a b → AreAllOf system xs → AreAllOf system ys
swapped_all system xs ys a b la lb len h all = record {
  length = len ∙ all.length;
  own = λ k d lt.
      let low : k < length xs = omega (arith, len, lt) in
      let from = all.own (moved a b k) d (moved_below a b k (length xs) la lb low) in
      subst (λ (c : AnyCode). letter c ≡ system) (sym (read_moved xs ys a b k d h)) from;
  distinct = λ i j d lt within e.
      let low : i < length xs = omega (arith, len, lt, within) in
      let high : j < length xs = omega (arith, len, within) in
      let from : slice_index_or xs (moved a b i) d ≡ slice_index_or xs (moved a b j) d = sym (read_moved xs ys a b i d h) ∙ e ∙ read_moved xs ys a b j d h in
      let places : moved a b i ≡ moved a b j = one_place xs (moved a b i) (moved a b j) d all.distinct
      (moved_below a b i (length xs) la lb low) (moved_below a b j (length xs) la lb high) from in
      let same : i ≡ j = sym (moved_back a b i) ∙ ap (moved a b) places ∙ moved_back a b j in
      omega (arith, same, lt);
  every = λ c own.
      let old = all.every c own in
      let at = moved a b old.0 in
      let inside = moved_below a b old.0 (length xs) la lb old.1 in
      (at, omega (arith, inside, len), read_moved xs ys a b at c h ∙ ap (λ (n : ℕ). slice_index_or xs n c) (moved_back a b old.0) ∙ old.2);
}

-- ---- a list that is written back, and the front of a list

pub refilled : (xs ws : List AnyCode) → length ws ≡ length xs → refill (length xs) xs ws ≡ ws
refilled xs ws e =
    ap (λ (y : List AnyCode). take (length xs) (ws ++ y)) (drop_all (length ws) xs (omega arith)) ∙ ap (take (length xs)) (append-nil ws) ∙ take_all (length xs) ws (omega arith)

pub front_distinct : (n : ℕ) (xs : List AnyCode) → AllPairs (λ c d. c ≢ d) xs → AllPairs (λ c d. c ≢ d) (take n xs)
front_distinct n xs h i j d lt within e =
    let size = length-take n xs in
    h i j d lt (omega (arith, within, size)) (sym (get_or-take n xs i d (omega (arith, lt, within, size))) ∙ e ∙ get_or-take n xs j d (omega (arith, within, size)))
