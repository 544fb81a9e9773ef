-- The listed codes of a system, which stand one after another.
use Rattle.std.proofs.Common.{◌≡◌, ◌≢◌, ◌∙◌, ◌==◌, ◌+◌, ◌-◌, ◌<◌, ◌≤◌, ℕ, zero, suc, Bool, true, false, List, [], ◌∷◌, ◌++◌, length, map, filter, take, drop, get_or, get_or-drop, drop-drop, slice_range, inl, inr, refl, sym, ap, subst, arith, add-zero}
use Rattle.std.specs.Prelude.{All, AllPairs, if◌then◌else◌}
use Rattle.std.specs.List.{list_any}
use Rattle.std.proofs.lemmas.Bool.{cases_lt, cond-true, cond-false, eq-eqb, eqb-true, ne_eqb}
use Rattle.std.proofs.lemmas.Bool.Decides.{Decides-eqb}
use Rattle.std.proofs.lemmas.List.{append-nil, get_or-map, length-map}
use Rattle.std.proofs.lemmas.List.Elements.{filter_passes}
use Rattle.std.proofs.lemmas.List.Kept.{AllPairs-filter}
use Rattle.std.proofs.lemmas.Map.Made.{IsDistinct-from_AllPairs}
use Rattle.std.proofs.lemmas.Map.Steps.{length-le_from_distinct_below}
use Rattle.std.proofs.lemmas.Map.Views.{Contains-from_any}
use Rattle.rtk_message.specs.declared.system.System.{System}
use Rattle.rtk_message.specs.declared.system.System.TheVariants.{Gps, Glonass, Galileo, Beidou, Qzss, Sbas, Navic}
use Rattle.rtk_obs.specs.declared.any_code.AnyCode.{AnyCode}
use Rattle.rtk_obs.specs.declared.any_code.AnyCode.TheVariants.{G1C}
use Rattle.rtk_obs.specs.AnyCode.{codes_before, place_of, system_of}
use Rattle.rtk_obs.specs.SatelliteIndex.{letter_of, system_at}
use Rattle.rtk_obs.proofs.PublicLaws.{place_below}
use Rattle.rtk_rinex.specs.MixedHead.{IsMixedList, letter}
use Rattle.rtk_rinex.specs.MixedHeader.{codes_of}
use Rattle.rtk_convert.specs.Steps.ShownCells.{AreCodesBefore, AreCodesTo}
use Rattle.rtk_convert.proofs.PlacesLemmas.{same_place}
use Rattle.rtk_convert.proofs.SystemLemmas.{letter-once, system-by}

-- ---- how many they are

module _ (s : System) (listed : List AnyCode) (list : IsMixedList listed) where
  of-system : All (λ (c : AnyCode). system_of c ≡ s) (codes_of (letter_of s) listed)
  of-system = λ k d lt. system-by _ s (filter_passes (λ (c : AnyCode). letter c == letter_of s) listed k d lt)

  apart : AllPairs (λ (c d : AnyCode). c ≢ d) (codes_of (letter_of s) listed)
  apart = AllPairs-filter (λ (c d : AnyCode). c ≢ d) (λ (c : AnyCode). letter c == letter_of s) listed (λ i j d lt within. (list.order i j d lt within).unlike)

  -- their places differ
  pub places-apart : AllPairs (λ a b. place_of a ≢ place_of b) (codes_of (letter_of s) listed)
  places-apart = λ i j d lt within e.
      apart i j d lt within (same_place (get_or (codes_of (letter_of s) listed) i d) (get_or (codes_of (letter_of s) listed) j d) (of-system i d (omega arith) ∙ sym (of-system j d within)) e)

  places-distinct : AllPairs (λ m n. m ≢ n) (map place_of (codes_of (letter_of s) listed))
  places-distinct = λ i j d lt within e.
      let cs = codes_of (letter_of s) listed in
      let n = length-map cs place_of in
      let high : j < length cs = omega (arith, n, within) in
      let low : i < length cs = omega (arith, lt, high) in
      places-apart i j G1C lt high (sym (get_or-map place_of cs i G1C d low) ∙ e ∙ get_or-map place_of cs j G1C d high)

  below : (q : ℕ) → list_any (λ p. q == p) (map place_of (codes_of (letter_of s) listed)) ≡ true → q < 16
  below q found =
      let cs = codes_of (letter_of s) listed in
      let at = Contains-from_any {eq = λ a b. a == b} eqb-true q (map place_of cs) found in
      let n = length-map cs place_of in
      let low : at.0 < length cs = omega (arith, n, at.1) in
      let place : place_of (get_or cs at.0 G1C) ≡ q = sym (get_or-map place_of cs at.0 G1C q low) ∙ at.2 in
      let small = place_below (get_or cs at.0 G1C) in
      omega (arith, place, small)

  -- at most 16
  pub codes-few : length (codes_of (letter_of s) listed) ≤ 16
  codes-few =
      let cs = codes_of (letter_of s) listed in
      let size = length-le_from_distinct_below (map place_of cs) 16 (IsDistinct-from_AllPairs Decides-eqb (map place_of cs) places-distinct) below in
      omega (arith, size, length-map cs place_of)

-- ---- where they stand

-- the system whose codes have these numbers
by_number : ℕ → System
by_number n = if n == 0 then Gps else if n == 16 then Glonass else if n == 20 then Galileo else if n == 35 then Beidou else if n == 51 then Qzss else if n == 64 then Sbas else Navic

by-number : (s : System) → by_number (codes_before s) ≡ s
unfolding by_number
by-number Gps = refl
by-number Glonass = refl
by-number Galileo = refl
by-number Beidou = refl
by-number Qzss = refl
by-number Sbas = refl
by-number Navic = refl

before-once : (a b : System) → codes_before a ≡ codes_before b → a ≡ b
before-once a b h = sym (by-number a) ∙ ap by_number h ∙ by-number b

module _ (s : System) where
  abbrev is_own : AnyCode → Bool
  is_own c = letter c == letter_of s

  not-own : (c : AnyCode) → system_of c ≢ s → is_own c ≡ false
  not-own c ne = ne_eqb (letter c) (letter_of s) (λ q. ne (letter-once (system_of c) s q))

  own-is : (c : AnyCode) → system_of c ≡ s → is_own c ≡ true
  own-is c is = eq-eqb (letter c) (letter_of s) (ap letter_of is)

  skip-others : (cs : List AnyCode) (b : ℕ) → b ≤ length cs → ((k : ℕ) (d : AnyCode) → k < b → system_of (get_or cs k d) ≢ s) → filter is_own cs ≡ filter is_own (drop b cs)
  skip-others cs zero le h = refl
  skip-others [] (suc b) le h = absurd (omega arith)
  skip-others (c ∷ cs) (suc b) le h =
      cond-false (is_own c) (c ∷ filter is_own cs) (filter is_own cs) (not-own c (h 0 c (omega arith))) ∙ skip-others cs b (omega arith) (λ k d lt. h (suc k) d (omega arith))

  take-own : (cs : List AnyCode) (n : ℕ) → n ≤ length cs → ((k : ℕ) (d : AnyCode) → k < n → system_of (get_or cs k d) ≡ s) → filter is_own cs ≡ take n cs ++ filter is_own (drop n cs)
  take-own cs zero le h = refl
  take-own [] (suc n) le h = absurd (omega arith)
  take-own (c ∷ cs) (suc n) le h =
      cond-true (is_own c) (c ∷ filter is_own cs) (filter is_own cs) (own-is c (h 0 c (omega arith)))
      ∙ ap (λ (xs : List AnyCode). c ∷ xs) (take-own cs n (omega arith) (λ k d lt. h (suc k) d (omega arith)))

  none-own : (cs : List AnyCode) → ((k : ℕ) (d : AnyCode) → k < length cs → system_of (get_or cs k d) ≢ s) → filter is_own cs ≡ []
  none-own [] h = refl
  none-own (c ∷ cs) h =
      cond-false (is_own c) (c ∷ filter is_own cs) (filter is_own cs) (not-own c (h 0 c (omega arith))) ∙ none-own cs (λ k d lt. h (suc k) d (omega arith))

  at-drop : (cs : List AnyCode) (b k : ℕ) (d : AnyCode) → get_or (drop b cs) k d ≡ get_or cs (b + k) d
  at-drop cs b k d = get_or-drop b cs k d

  dropped : (cs : List AnyCode) (b n : ℕ) → drop n (drop b cs) ≡ drop (b + n) cs
  dropped cs b n = drop-drop n b cs

  short-drop : (cs : List AnyCode) (b : ℕ) → b ≤ length cs → length (drop b cs) + b ≡ length cs
  short-drop cs zero le = add-zero (length cs)
  short-drop [] (suc b) le = absurd (omega arith)
  short-drop (c ∷ cs) (suc b) le = let rest = short-drop cs b (omega arith) in omega arith

  -- after the last code of the system comes none
  none-after : (listed : List AnyCode) (b e : ℕ) → IsMixedList listed → b ≤ e → ((d : AnyCode) → b < length listed → system_of (get_or listed b d) ≡ s)
      → ((d : AnyCode) → e < length listed → system_of (get_or listed e d) ≢ s) → (k : ℕ) (d : AnyCode) → e ≤ k → k < length listed → system_of (get_or listed k d) ≢ s
  none-after listed b e list le first last k d from lt is =
      elim (cases_lt b e) [
        | inr none ↦
            let same : b ≡ e = omega arith in
            last d (omega arith) (subst (λ (i : ℕ). system_of (get_or listed i d) ≡ s) same (first d (omega arith)))
        | inl some ↦
            let start : system_of (get_or listed b d) ≡ s = first d (omega arith) in
            let rises = (list.order b e d some (omega arith)).systems in
            let low : codes_before s ≤ codes_before (system_of (get_or listed e d)) = subst (λ (t : System). codes_before t ≤ codes_before (system_of (get_or listed e d))) start rises in
            elim (cases_lt e k) [
              | inr here ↦
                  let same : k ≡ e = omega arith in
                  last d (omega arith) (subst (λ (i : ℕ). system_of (get_or listed i d) ≡ s) same is)
              | inl later ↦
                  let falls = (list.order e k d later lt).systems in
                  let high : codes_before (system_of (get_or listed e d)) ≤ codes_before s = subst (λ (t : System). codes_before (system_of (get_or listed e d)) ≤ codes_before t) is falls in
                  last d (omega arith) (sym (before-once s (system_of (get_or listed e d)) (omega arith)))
            ]
      ]

  -- the codes between these places are those of the system
  pub codes-between : (listed : List AnyCode) (b e : ℕ) → IsMixedList listed → AreCodesBefore listed s b → b ≤ e → e ≤ length listed
      → ((k : ℕ) (d : AnyCode) → b ≤ k → k < e → system_of (get_or listed k d) ≡ s) → ((d : AnyCode) → e < length listed → system_of (get_or listed e d) ≢ s)
      → slice_range listed b e ≡ codes_of (letter_of s) listed
  codes-between listed b e list start le within own last =
      let size = short-drop listed b start.within in
      let rest = short-drop listed e within in
      let two : drop (e - b) (drop b listed) ≡ drop e listed = dropped listed b (e - b) ∙ ap (λ (n : ℕ). drop n listed) (let sum : b + (e - b) ≡ e = omega arith in sum) in
      let after : filter is_own (drop (e - b) (drop b listed)) ≡ [] =
      ap (filter is_own) two ∙ none-own (drop e listed) (λ k d lt.
      subst (λ (c : AnyCode). system_of c ≢ s) (sym (at-drop listed e k d)) (none-after listed b e list le start.next last (e + k) d (omega arith) (omega arith))) in
      sym (skip-others listed b start.within start.others
      ∙ take-own (drop b listed) (e - b) (omega arith) (λ k d lt. ap system_of (at-drop listed b k d) ∙ own (b + k) d (omega arith) (omega arith))
      ∙ ap (λ (xs : List AnyCode). take (e - b) (drop b listed) ++ xs) after ∙ append-nil (take (e - b) (drop b listed)))

  -- between two codes of the system stand codes of the system
  same-between : (listed : List AnyCode) → IsMixedList listed → ((d : AnyCode) → system_of (get_or listed 0 d) ≡ s) → ((d : AnyCode) → system_of (get_or listed (length listed - 1) d) ≡ s)
      → (k : ℕ) (d : AnyCode) → k < length listed → system_of (get_or listed k d) ≡ s
  same-between listed list first last k d lt =
      elim (cases_lt 0 k) [
        | inr here ↦
            let at : 0 ≡ k = omega arith in
            subst (λ (i : ℕ). system_of (get_or listed i d) ≡ s) at (first d)
        | inl after ↦ elim (cases_lt k (length listed - 1)) [
          | inr here ↦
              let at : length listed - 1 ≡ k = omega arith in
              subst (λ (i : ℕ). system_of (get_or listed i d) ≡ s) at (last d)
          | inl before ↦
              let rises = (list.order 0 k d after lt).systems in
              let falls = (list.order k (length listed - 1) d before (omega arith)).systems in
              let low : codes_before s ≤ codes_before (system_of (get_or listed k d)) = subst (λ (t : System). codes_before t ≤ codes_before (system_of (get_or listed k d))) (first d) rises in
              let high : codes_before (system_of (get_or listed k d)) ≤ codes_before s = subst (λ (t : System). codes_before (system_of (get_or listed k d)) ≤ codes_before t) (last d) falls in
              before-once (system_of (get_or listed k d)) s (omega arith)
        ]
      ]

  all-own : (cs : List AnyCode) → ((k : ℕ) (d : AnyCode) → k < length cs → system_of (get_or cs k d) ≡ s) → filter is_own cs ≡ cs
  all-own [] h = refl
  all-own (c ∷ cs) h =
      cond-true (is_own c) (c ∷ filter is_own cs) (filter is_own cs) (own-is c (h 0 c (omega arith)))
      ∙ ap (λ (xs : List AnyCode). c ∷ xs) (all-own cs (λ k d lt. h (suc k) d (omega arith)))

  -- if the first and the last code are of the system, all are
  pub codes-all : (listed : List AnyCode) → IsMixedList listed → ((d : AnyCode) → system_of (get_or listed 0 d) ≡ s) → ((d : AnyCode) → system_of (get_or listed (length listed - 1) d) ≡ s)
      → listed ≡ codes_of (letter_of s) listed
  codes-all listed list first last = sym (all-own listed (same-between listed list first last))

-- ---- the codes of a row

module _ (listed : List AnyCode) (satellite : ℕ) (s : System) (codes : List AnyCode) (list : IsMixedList listed) (is : codes ≡ codes_of (letter_of s) listed) where
  pub few-are : length codes ≤ 16
  few-are = subst (λ (cs : List AnyCode). length cs ≤ 16) (sym is) (codes-few s listed list)

  -- the rows up to the last satellite of the system have them
  pub codes-to : (last : ℕ) → ((n : ℕ) → satellite ≤ n → n ≤ last → system_at n ≡ s) → AreCodesTo listed satellite last codes
  codes-to last systems = record {
    few = few-are;
    codes_are = λ n from to. ap (λ (t : System). codes_of (letter_of t) listed) (systems n from to) ∙ sym is;
  }

  pub codes-apart : AllPairs (λ a b. place_of a ≢ place_of b) codes
  codes-apart = subst (λ (cs : List AnyCode). AllPairs (λ a b. place_of a ≢ place_of b) cs) (sym is) (places-apart s listed list)
