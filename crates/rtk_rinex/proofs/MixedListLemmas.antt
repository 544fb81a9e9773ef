-- Codes in the order of a mixed list, and how many of them one system has.
use Rattle.std.proofs.Common.{◌≡◌, ◌≢◌, ⊎_elim, ℕ, ◌+◌, ◌<◌, ◌≤◌, List, [], ◌∷◌, length, map, get_or, slice_index_or, arith, refl, sym, ◌∙◌, ap, subst, Bool, true, false, ◌==◌, if◌then◌else◌}
use Rattle.std.specs.Prelude.{All, AllPairs}
use Rattle.std.specs.List.{list_any, list_all}
use Rattle.std.proofs.lemmas.Bool.{eqb-true}
use Rattle.std.proofs.lemmas.Bool.Decides.{Decides-eqb}
use Rattle.std.proofs.lemmas.List.{get_or-map, get_or_default, length-map}
use Rattle.std.proofs.lemmas.List.Elements.{filter_passes}
use Rattle.std.proofs.lemmas.List.Kept.{AllPairs-filter}
use Rattle.std.proofs.lemmas.Map.Made.{IsDistinct-from_AllPairs}
use Rattle.std.proofs.lemmas.Map.Steps.{length-le_from_distinct_below}
use Rattle.std.proofs.lemmas.Map.Views.{Contains-from_any}
use Rattle.rtk_message.specs.declared.system.System.{System}
use Rattle.rtk_message.specs.declared.system.System.TheVariants.{Gps, Glonass, Galileo, Beidou, Qzss, Sbas, Navic}
use Rattle.rtk_obs.specs.declared.any_code.AnyCode.{AnyCode}
use Rattle.rtk_obs.specs.declared.any_code.AnyCode.TheVariants.{G1C, G1P, G1W, G1S, G1L, G1X, G2C, G2D, G2P, G2W, G2S, G2L, G2X, G5I, G5Q, G5X, R1C, R1P, R2C, R2P, E1C, E1B, E1X, E6C, E6B, E6X, E7I, E7Q, E7X, E8I, E8Q, E8X, E5I, E5Q, E5X, C2I, C2Q, C2X, C6I, C6Q, C6X, C7I, C7Q, C7X, C5D, C5P, C5X, C7D, C1D, C1P, C1X, J1C, J6S, J6L, J6X, J2S, J2L, J2X, J5I, J5Q, J5X, J1S, J1L, J1X, S1C, S5I, S5Q, S5X, I5A}
use Rattle.rtk_obs.specs.AnyCode.{system_of, place_of}
use Rattle.rtk_obs.specs.SatelliteIndex.{letter_of}
use Rattle.rtk_rinex.specs.MixedHead.{letter, AreInOrder}
use Rattle.rtk_rinex.specs.MixedHeader.{codes_of, version_letter}
use Rattle.rtk_rinex.specs.Steps.MixedRoom.{codes_of_letter}
use Rattle.rtk_rinex.proofs.HeaderLemmas.{below-or-at}

-- one more code, in order after all before it
pub in_order-more : (cs : List AnyCode) (i : ℕ) → ((j k : ℕ) (d : AnyCode) → j < k → k < i → AreInOrder (slice_index_or cs j d) (slice_index_or cs k d))
    → ((k : ℕ) (d : AnyCode) → k < i → AreInOrder (slice_index_or cs k d) (slice_index_or cs i d))
    → (j k : ℕ) (d : AnyCode) → j < k → k < i + 1 → AreInOrder (slice_index_or cs j d) (slice_index_or cs k d)
in_order-more cs i old new j k d jk ki =
    ⊎_elim (λ below. old j k d jk below)
    (λ at. let lt : j < i = omega (arith, jk, at) in subst (λ (n : ℕ). AreInOrder (slice_index_or cs j d) (slice_index_or cs n d)) (sym at) (new j d lt))
    (below-or-at i k ki)

-- the same of a code at one place
pub at_place : (cs : List AnyCode) (at i : ℕ) → i < at → at < length cs → ((k : ℕ) (d : AnyCode) → k < i → AreInOrder (slice_index_or cs k d) (slice_index_or cs at d))
    → AreInOrder (slice_index_or cs i G1C) (slice_index_or cs at G1C)
    → (k : ℕ) (d : AnyCode) → k < i + 1 → AreInOrder (slice_index_or cs k d) (slice_index_or cs at d)
at_place cs at i lt within old new k d ki =
    let one : slice_index_or cs i G1C ≡ slice_index_or cs i d = get_or_default cs i G1C d (omega (arith, lt, within)) in
    let other : slice_index_or cs at G1C ≡ slice_index_or cs at d = get_or_default cs at G1C d within in
    let here : AreInOrder (slice_index_or cs i d) (slice_index_or cs at d) = rw (one, other) at new in
    ⊎_elim (λ below. old k d below) (λ e. subst (λ (n : ℕ). AreInOrder (slice_index_or cs n d) (slice_index_or cs at d)) (sym e) here)
    (below-or-at i k ki)

-- ---- systems and letters

of_letter : ℕ → System
of_letter l =
    if l == 71 then Gps else if l == 82 then Glonass else if l == 69 then Galileo else if l == 67 then Beidou else if l == 74 then Qzss else if l == 83 then Sbas else Navic

letter_back : (s : System) → of_letter (letter_of s) ≡ s
unfolding of_letter
letter_back Gps = refl
letter_back Glonass = refl
letter_back Galileo = refl
letter_back Beidou = refl
letter_back Qzss = refl
letter_back Sbas = refl
letter_back Navic = refl

pub same_system : (s t : System) → letter_of s ≡ letter_of t → s ≡ t
same_system s t e = sym (letter_back s) ∙ ap of_letter e ∙ letter_back t

-- ---- how many codes one system has

-- a place of a system belongs to one code
abbrev pub HaveOnePlace : Type 0
HaveOnePlace = (c d : AnyCode) → system_of c ≡ system_of d → place_of c ≡ place_of d → c ≡ d

distinct_places : (l : ℕ) (cs : List AnyCode) → HaveOnePlace → All (λ c. letter c ≡ l) cs → AllPairs (λ c d. c ≢ d) cs → AllPairs (λ m n. m ≢ n) (map place_of cs)
distinct_places l cs one same apart i j d lt within e =
    let n = length-map cs place_of in
    let high : j < length cs = omega (arith, n, within) in
    let low : i < length cs = omega (arith, lt, high) in
    apart i j G1C lt high
    (one (get_or cs i G1C) (get_or cs j G1C) (same_system _ _ (same i G1C low ∙ sym (same j G1C high)))
    (sym (get_or-map place_of cs i G1C d low) ∙ e ∙ get_or-map place_of cs j G1C d high))

below_of : (l n : ℕ) (cs : List AnyCode) → ((c : AnyCode) → letter c ≡ l → place_of c < n) → All (λ c. letter c ≡ l) cs → (q : ℕ) → list_any (λ p. q == p) (map place_of cs) ≡ true → q < n
below_of l n cs bound same q found =
    let at = Contains-from_any {eq = λ a b. a == b} eqb-true q (map place_of cs) found in
    let n = length-map cs place_of in
    let low : at.0 < length cs = omega (arith, n, at.1) in
    let place : place_of (get_or cs at.0 G1C) ≡ q = sym (get_or-map place_of cs at.0 G1C q low) ∙ at.2 in
    let small = bound (get_or cs at.0 G1C) (same at.0 G1C low) in
    omega (arith, place, small)

pub few_unlike : (l n : ℕ) (cs : List AnyCode) → HaveOnePlace → ((c : AnyCode) → letter c ≡ l → place_of c < n) → AllPairs (λ c d. c ≢ d) cs → length (codes_of l cs) ≤ n
few_unlike l n cs one bound unlike =
    let kept = codes_of l cs in
    let passes = filter_passes (λ c. letter c == l) cs in
    let same : All (λ c. letter c ≡ l) kept = λ k d lt. eqb-true _ _ (passes k d lt) in
    let apart : AllPairs (λ c d. c ≢ d) kept = AllPairs-filter (λ c d. c ≢ d) (λ c. letter c == l) cs unlike in
    let places = IsDistinct-from_AllPairs Decides-eqb (map place_of kept) (distinct_places l kept one same apart) in
    let size = length-le_from_distinct_below (map place_of kept) n places (below_of l n kept bound same) in
    let long = length-map kept place_of in
    omega (arith, size, long)

pub few_codes : (l n : ℕ) (cs : List AnyCode) → HaveOnePlace → ((c : AnyCode) → letter c ≡ l → place_of c < n) → AllPairs AreInOrder cs → length (codes_of l cs) ≤ n
few_codes l n cs one bound order = few_unlike l n cs one bound (λ i j d lt within. (order i j d lt within).unlike)

place_below : (c : AnyCode) → place_of c < codes_of_letter (letter c)
place_below G1C = omega arith
place_below G1P = omega arith
place_below G1W = omega arith
place_below G1S = omega arith
place_below G1L = omega arith
place_below G1X = omega arith
place_below G2C = omega arith
place_below G2D = omega arith
place_below G2P = omega arith
place_below G2W = omega arith
place_below G2S = omega arith
place_below G2L = omega arith
place_below G2X = omega arith
place_below G5I = omega arith
place_below G5Q = omega arith
place_below G5X = omega arith
place_below R1C = omega arith
place_below R1P = omega arith
place_below R2C = omega arith
place_below R2P = omega arith
place_below E1C = omega arith
place_below E1B = omega arith
place_below E1X = omega arith
place_below E6C = omega arith
place_below E6B = omega arith
place_below E6X = omega arith
place_below E7I = omega arith
place_below E7Q = omega arith
place_below E7X = omega arith
place_below E8I = omega arith
place_below E8Q = omega arith
place_below E8X = omega arith
place_below E5I = omega arith
place_below E5Q = omega arith
place_below E5X = omega arith
place_below C2I = omega arith
place_below C2Q = omega arith
place_below C2X = omega arith
place_below C6I = omega arith
place_below C6Q = omega arith
place_below C6X = omega arith
place_below C7I = omega arith
place_below C7Q = omega arith
place_below C7X = omega arith
place_below C5D = omega arith
place_below C5P = omega arith
place_below C5X = omega arith
place_below C7D = omega arith
place_below C1D = omega arith
place_below C1P = omega arith
place_below C1X = omega arith
place_below J1C = omega arith
place_below J6S = omega arith
place_below J6L = omega arith
place_below J6X = omega arith
place_below J2S = omega arith
place_below J2L = omega arith
place_below J2X = omega arith
place_below J5I = omega arith
place_below J5Q = omega arith
place_below J5X = omega arith
place_below J1S = omega arith
place_below J1L = omega arith
place_below J1X = omega arith
place_below S1C = omega arith
place_below S5I = omega arith
place_below S5Q = omega arith
place_below S5X = omega arith
place_below I5A = omega arith

pub most_codes : (l : ℕ) (cs : List AnyCode) → HaveOnePlace → AllPairs AreInOrder cs → length (codes_of l cs) ≤ codes_of_letter l
most_codes l cs one order = few_codes l (codes_of_letter l) cs one (λ c e. subst (λ (k : ℕ). place_of c < codes_of_letter k) e (place_below c)) order

pub most_unlike : (l : ℕ) (cs : List AnyCode) → HaveOnePlace → AllPairs (λ c d. c ≢ d) cs → length (codes_of l cs) ≤ codes_of_letter l
most_unlike l cs one unlike = few_unlike l (codes_of_letter l) cs one (λ c e. subst (λ (k : ℕ). place_of c < codes_of_letter k) e (place_below c)) unlike

-- ---- the letter of a file

tested : (c : AnyCode) (cs : List AnyCode) → list_all (λ d. letter d == letter c) (c ∷ cs) ≡ list_all (λ d. letter d == letter c) cs
tested c cs = let e : (letter c == letter c) ≡ true = (Decides-eqb (letter c) (letter c)).1 refl in rw e refl

letter_if : (b : Bool) (x y : ℕ) → b ≡ true → (if b then x else y) ≡ x
letter_if true x y e = refl
letter_if false x y e = absurd (cc)

letter_else : (b : Bool) (x y : ℕ) → b ≡ false → (if b then x else y) ≡ y
letter_else false x y e = refl
letter_else true x y e = absurd (cc)

pub letter_of_all : (cs : List AnyCode) (d : AnyCode) → 0 < length cs → list_all (λ c. letter c == letter (get_or cs 0 d)) cs ≡ true → version_letter cs ≡ letter (get_or cs 0 d)
letter_of_all [] d some all = absurd (omega arith)
letter_of_all (c ∷ cs) d some all = letter_if (list_all (λ d. letter d == letter c) cs) (letter c) 77 (sym (tested c cs) ∙ all)

pub letter_of_some : (cs : List AnyCode) (d : AnyCode) → 0 < length cs → list_all (λ c. letter c == letter (get_or cs 0 d)) cs ≡ false → version_letter cs ≡ 77
letter_of_some [] d some all = absurd (omega arith)
letter_of_some (c ∷ cs) d some all = letter_else (list_all (λ d. letter d == letter c) cs) (letter c) 77 (sym (tested c cs) ∙ all)
