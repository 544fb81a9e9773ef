-- A system has 16 codes at most.
use Rattle.std.proofs.Common.{◌≡◌, ◌≢◌, ◌<◌, ◌≤◌, ◌==◌, ℕ, true, List, length, map, get_or, refl, sym, ap, ◌∙◌, arith}
use Rattle.std.specs.Prelude.{All, AllPairs, if◌then◌else◌}
use Rattle.std.specs.List.{list_any}
use Rattle.std.proofs.lemmas.Bool.{eqb-true}
use Rattle.std.proofs.lemmas.Bool.Decides.{Decides-eqb}
use Rattle.std.proofs.lemmas.List.{get_or-map, length-map}
use Rattle.std.proofs.lemmas.List.Elements.{filter_passes}
use Rattle.std.proofs.lemmas.List.Kept.{AllPairs-filter}
use Rattle.std.proofs.lemmas.Map.Made.{IsDistinct-from_AllPairs}
use Rattle.std.proofs.lemmas.Map.Steps.{length-le_from_distinct_below}
use Rattle.std.proofs.lemmas.Map.Views.{Contains-from_any}
use Rattle.rtk_message.specs.declared.system.System.{System}
use Rattle.rtk_message.specs.declared.system.System.TheVariants.{Gps, Glonass, Galileo, Beidou, Qzss, Sbas, Navic}
use Rattle.rtk_obs.specs.declared.any_code.AnyCode.{AnyCode}
use Rattle.rtk_obs.specs.declared.any_code.AnyCode.TheVariants.{G1C}
use Rattle.rtk_obs.specs.AnyCode.{system_of, place_of}
use Rattle.rtk_obs.specs.SatelliteIndex.{letter_of}
use Rattle.rtk_rinex.specs.MixedHead.{letter, AreInOrder}
use Rattle.rtk_rinex.specs.MixedHeader.{codes_of}

of_letter : ℕ → System
of_letter l =
    if l == 71 then Gps else if l == 82 then Glonass else if l == 69 then Galileo else if l == 67 then Beidou else if l == 74 then Qzss else if l == 83 then Sbas else Navic

letter_back : (s : System) → of_letter (letter_of s) ≡ s
unfolding of_letter
letter_back Gps = refl
letter_back Glonass = refl
letter_back Galileo = refl
letter_back Beidou = refl
letter_back Qzss = refl
letter_back Sbas = refl
letter_back Navic = refl

same_system : (s t : System) → letter_of s ≡ letter_of t → s ≡ t
same_system s t e = sym (letter_back s) ∙ ap of_letter e ∙ letter_back t

-- a place of a system belongs to one code
abbrev pub HasOneCode : Type 0
HasOneCode = (c d : AnyCode) → system_of c ≡ system_of d → place_of c ≡ place_of d → c ≡ d

distinct_places : (l : ℕ) (cs : List AnyCode) → HasOneCode → All (λ c. letter c ≡ l) cs → AllPairs (λ c d. c ≢ d) cs → AllPairs (λ m n. m ≢ n) (map place_of cs)
distinct_places l cs one same apart i j d lt within e =
    let n = length-map cs place_of in
    let high : j < length cs = omega (arith, n, within) in
    let low : i < length cs = omega (arith, lt, high) in
    apart i j G1C lt high
    (one (get_or cs i G1C) (get_or cs j G1C) (same_system _ _ (same i G1C low ∙ sym (same j G1C high)))
    (sym (get_or-map place_of cs i G1C d low) ∙ e ∙ get_or-map place_of cs j G1C d high))

below_of : (n : ℕ) (cs : List AnyCode) → ((c : AnyCode) → place_of c < n) → (q : ℕ) → list_any (λ p. q == p) (map place_of cs) ≡ true → q < n
below_of n cs bound q found =
    let at = Contains-from_any {eq = λ a b. a == b} eqb-true q (map place_of cs) found in
    let m = length-map cs place_of in
    let low : at.0 < length cs = omega (arith, m, at.1) in
    let place : place_of (get_or cs at.0 G1C) ≡ q = sym (get_or-map place_of cs at.0 G1C q low) ∙ at.2 in
    let small = bound (get_or cs at.0 G1C) in
    omega (arith, place, small)

pub few-codes : (l n : ℕ) (cs : List AnyCode) → HasOneCode → ((c : AnyCode) → place_of c < n) → AllPairs AreInOrder cs → length (codes_of l cs) ≤ n
few-codes l n cs one bound order =
    let kept = codes_of l cs in
    let passes = filter_passes (λ c. letter c == l) cs in
    let same : All (λ c. letter c ≡ l) kept = λ k d lt. eqb-true _ _ (passes k d lt) in
    let unlike : AllPairs (λ c d. c ≢ d) cs = λ i j d lt within. (order i j d lt within).unlike in
    let apart : AllPairs (λ c d. c ≢ d) kept = AllPairs-filter (λ c d. c ≢ d) (λ c. letter c == l) cs unlike in
    let places = IsDistinct-from_AllPairs Decides-eqb (map place_of kept) (distinct_places l kept one same apart) in
    let size = length-le_from_distinct_below (map place_of kept) n places (below_of n kept bound) in
    let long = length-map kept place_of in
    omega (arith, size, long)
