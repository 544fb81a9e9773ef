-- The codes that two files have both.
use Rattle.std.proofs.Common.{◌≡◌, ◌≢◌, ℕ, ◌+◌, ◌<◌, ◌≤◌, Bool, true, List, ◌++◌, map, length, get_or, drop, append_assoc, refl, sym, ap, ◌∙◌, arith}
use Rattle.std.specs.Prelude.{All, AllPairs, ◌==◌, if◌then◌else◌}
use Rattle.std.specs.List.{list_any}
use Rattle.std.proofs.lemmas.Bool.{eqb-true}
use Rattle.std.proofs.lemmas.Bool.Decides.{Decides-eqb}
use Rattle.std.proofs.lemmas.List.{drop_more, get_or-map, length-map}
use Rattle.std.proofs.lemmas.List.Elements.{filter_passes}
use Rattle.std.proofs.lemmas.List.Kept.{AllPairs-filter}
use Rattle.std.proofs.lemmas.Map.Made.{IsDistinct-from_AllPairs}
use Rattle.std.proofs.lemmas.Map.Steps.{length-le_from_distinct_below}
use Rattle.std.proofs.lemmas.Map.Views.{Contains-from_any}
use Rattle.rtk_message.specs.declared.system.System.{System}
use Rattle.rtk_message.specs.declared.system.System.TheVariants.{Gps, Glonass, Galileo, Beidou, Qzss, Sbas, Navic}
use Rattle.rtk_obs.specs.declared.any_code.AnyCode.{AnyCode}
use Rattle.rtk_obs.specs.declared.any_code.AnyCode.TheVariants.{G1C}
use Rattle.rtk_obs.specs.AnyCode.{system_of, place_of}
use Rattle.rtk_obs.specs.SatelliteIndex.{letter_of, system_at}
use Rattle.rtk_rinex.specs.MixedHead.{letter, IsMixedList}
use Rattle.rtk_rinex.specs.MixedHeader.{codes_of}
use Rattle.rtk_compare.specs.declared.shared_codes.SharedCode.{SharedCode}
use Rattle.rtk_compare.specs.declared.shared_codes.SharedCodes.{SharedCodes}
use Rattle.rtk_compare.specs.Codes.{place_in, with_places, shared_from, shared_of, shared_codes}
use Rattle.rtk_compare.specs.Steps.SharedCodes.{codes_in, HasShared}

-- one more code of the old list
pub shared-more : (shifts : Bool) (news olds : List AnyCode) (k : ℕ) (d : AnyCode) (mid after : List SharedCode) → k < length olds
    → shared_of shifts olds news ≡ mid ++ shared_from shifts news k (drop k olds) → after ≡ mid ++ with_places shifts (get_or olds k d) k (place_in (get_or olds k d) news)
    → shared_of shifts olds news ≡ after ++ shared_from shifts news (k + 1) (drop (k + 1) olds)
shared-more shifts news olds k d mid after lt so_far more =
    let c = get_or olds k d in
    let rest = shared_from shifts news (k + 1) (drop (k + 1) olds) in
    so_far ∙ ap (λ (cs : List AnyCode). mid ++ shared_from shifts news k cs) (drop_more olds k d lt)
    ∙ sym (append_assoc mid (with_places shifts c k (place_in c news)) rest) ∙ ap (λ (xs : List SharedCode). xs ++ rest) (sym more)

-- ---- how many codes one system has

of_letter : ℕ → System
of_letter l =
    if l == 71 then Gps else if l == 82 then Glonass else if l == 69 then Galileo else if l == 67 then Beidou else if l == 74 then Qzss else if l == 83 then Sbas else Navic

letter_back : (s : System) → of_letter (letter_of s) ≡ s
unfolding of_letter
letter_back Gps = refl
letter_back Glonass = refl
letter_back Galileo = refl
letter_back Beidou = refl
letter_back Qzss = refl
letter_back Sbas = refl
letter_back Navic = refl

same_system : (s t : System) → letter_of s ≡ letter_of t → s ≡ t
same_system s t e = sym (letter_back s) ∙ ap of_letter e ∙ letter_back t

-- a place of a system belongs to one code
abbrev pub HaveOnePlace : Type 0
HaveOnePlace = (c d : AnyCode) → system_of c ≡ system_of d → place_of c ≡ place_of d → c ≡ d

distinct_places : (l : ℕ) (cs : List AnyCode) → HaveOnePlace → All (λ c. letter c ≡ l) cs → AllPairs (λ c d. c ≢ d) cs → AllPairs (λ m n. m ≢ n) (map place_of cs)
distinct_places l cs one same apart i j d lt within e =
    let n = length-map cs place_of in
    let high : j < length cs = omega (arith, n, within) in
    let low : i < length cs = omega (arith, lt, high) in
    apart i j G1C lt high
    (one (get_or cs i G1C) (get_or cs j G1C) (same_system _ _ (same i G1C low ∙ sym (same j G1C high)))
    (sym (get_or-map place_of cs i G1C d low) ∙ e ∙ get_or-map place_of cs j G1C d high))

below_of : (n : ℕ) (cs : List AnyCode) → ((c : AnyCode) → place_of c < n) → (q : ℕ) → list_any (λ p. q == p) (map place_of cs) ≡ true → q < n
below_of n cs bound q found =
    let at = Contains-from_any {eq = λ a b. a == b} eqb-true q (map place_of cs) found in
    let n = length-map cs place_of in
    let low : at.0 < length cs = omega (arith, n, at.1) in
    let place : place_of (get_or cs at.0 G1C) ≡ q = sym (get_or-map place_of cs at.0 G1C q low) ∙ at.2 in
    let small = bound (get_or cs at.0 G1C) in
    omega (arith, place, small)

pub few_of : (l n : ℕ) (cs : List AnyCode) → HaveOnePlace → ((c : AnyCode) → place_of c < n) → IsMixedList cs → length (codes_of l cs) ≤ n
few_of l n cs one bound list =
    let kept = codes_of l cs in
    let passes = filter_passes (λ c. letter c == l) cs in
    let same : All (λ c. letter c ≡ l) kept = λ k d lt. eqb-true _ _ (passes k d lt) in
    let unlike : AllPairs (λ c d. c ≢ d) cs = λ i j d lt within. (list.order i j d lt within).unlike in
    let apart : AllPairs (λ c d. c ≢ d) kept = AllPairs-filter (λ c d. c ≢ d) (λ c. letter c == l) cs unlike in
    let places = IsDistinct-from_AllPairs Decides-eqb (map place_of kept) (distinct_places l kept one same apart) in
    let size = length-le_from_distinct_below (map place_of kept) n places (below_of n kept bound) in
    let long = length-map kept place_of in
    omega (arith, size, long)

-- ---- the codes of all systems

-- those of each system are these
pub record AreShared (s : SharedCodes) (shifts : Bool) (olds news : List AnyCode) : Type 0 where
  pub gps : s.gps.items ≡ shared_of shifts (codes_of 71 olds) (codes_of 71 news)
  pub glonass : s.glonass.items ≡ shared_of shifts (codes_of 82 olds) (codes_of 82 news)
  pub galileo : s.galileo.items ≡ shared_of shifts (codes_of 69 olds) (codes_of 69 news)
  pub beidou : s.beidou.items ≡ shared_of shifts (codes_of 67 olds) (codes_of 67 news)
  pub qzss : s.qzss.items ≡ shared_of shifts (codes_of 74 olds) (codes_of 74 news)
  pub sbas : s.sbas.items ≡ shared_of shifts (codes_of 83 olds) (codes_of 83 news)
  pub navic : s.navic.items ≡ shared_of shifts (codes_of 73 olds) (codes_of 73 news)

-- and they are few
pub record AreFew (s : SharedCodes) : Type 0 where
  pub gps : length s.gps.items ≤ 16
  pub glonass : length s.glonass.items ≤ 16
  pub galileo : length s.galileo.items ≤ 16
  pub beidou : length s.beidou.items ≤ 16
  pub qzss : length s.qzss.items ≤ 16
  pub sbas : length s.sbas.items ≤ 16
  pub navic : length s.navic.items ≤ 16

shared-in : (s : SharedCodes) (shifts : Bool) (olds news : List AnyCode) → AreShared s shifts olds news → (system : System)
    → codes_in s system ≡ shared_of shifts (codes_of (letter_of system) olds) (codes_of (letter_of system) news)
shared-in s shifts olds news are Gps = are.gps
shared-in s shifts olds news are Glonass = are.glonass
shared-in s shifts olds news are Galileo = are.galileo
shared-in s shifts olds news are Beidou = are.beidou
shared-in s shifts olds news are Qzss = are.qzss
shared-in s shifts olds news are Sbas = are.sbas
shared-in s shifts olds news are Navic = are.navic

few-in : (s : SharedCodes) → AreFew s → (system : System) → length (codes_in s system) ≤ 16
few-in s few Gps = few.gps
few-in s few Glonass = few.glonass
few-in s few Galileo = few.galileo
few-in s few Beidou = few.beidou
few-in s few Qzss = few.qzss
few-in s few Sbas = few.sbas
few-in s few Navic = few.navic

pub has-shared : (s : SharedCodes) (shifts : Bool) (olds news : List AnyCode) → AreShared s shifts olds news → AreFew s → HasShared s (shared_codes shifts olds news)
has-shared s shifts olds news are few = record {
  same = λ satellite. shared-in s shifts olds news are (system_at satellite);
  few = λ satellite.
      let same = shared-in s shifts olds news are (system_at satellite) in
      let low = few-in s few (system_at satellite) in
      let long = ap (λ (xs : List SharedCode). length xs) same in
      omega (arith, low, long);
}
