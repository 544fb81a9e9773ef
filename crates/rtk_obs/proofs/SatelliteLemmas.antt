-- The index over the satellites of all systems and their names are one to one.
use Rattle.std.proofs.Common.{◌≡◌, ◌≢◌, ℕ, ◌+◌, ◌-◌, ◌/◌, ◌%◌, ◌<◌, ◌≤◌, true, false, List, [], ◌∷◌, get_or, nat_eq, cond, Option, Some, None, inl, inr, refl, sym, ap, subst, ◌∙◌, arith}
use Rattle.std.specs.Prelude.{MatchOption, nat_le}
use Rattle.std.proofs.lemmas.Bool.Decides.{leb_tells, nat_tests}
use Rattle.rtk_message.specs.declared.system.System.{System}
use Rattle.rtk_message.specs.declared.system.System.TheVariants.{Gps, Glonass, Galileo, Beidou, Qzss, Sbas, Navic}
use Rattle.rtk_obs.specs.CivilText.{last_digits}
use Rattle.rtk_obs.specs.SatelliteIndex.{satellites_of_system, satellites_before, IsSatelliteIndex, IsOfSystem, index_in, system_at, bit_at, letter_of, name_offset, index_name}

yes : (a b : ℕ) → a ≤ b → nat_le a b ≡ true
yes a b h = grind (arith, nat_tests)

no : (a b : ℕ) → b < a → nat_le a b ≡ false
no a b h = grind (arith, nat_tests)

-- ---- the system of an index

pub at-gps : (i : ℕ) → i ≤ 32 → system_at i ≡ Gps
at-gps i high = rw (yes i 32 high) refl

at-glonass : (i : ℕ) → 32 < i → i ≤ 59 → system_at i ≡ Glonass
at-glonass i low high = rw (no i 32 low, yes i 59 high) refl

at-galileo : (i : ℕ) → 59 < i → i ≤ 95 → system_at i ≡ Galileo
at-galileo i low high = rw (no i 32 (omega (arith, low)), no i 59 low, yes i 95 high) refl

at-beidou : (i : ℕ) → 95 < i → i ≤ 158 → system_at i ≡ Beidou
at-beidou i low high = rw (no i 32 (omega (arith, low)), no i 59 (omega (arith, low)), no i 95 low, yes i 158 high) refl

at-qzss : (i : ℕ) → 158 < i → i ≤ 168 → system_at i ≡ Qzss
at-qzss i low high =
    rw (no i 32 (omega (arith, low)), no i 59 (omega (arith, low)), no i 95 (omega (arith, low)), no i 158 low, yes i 168 high) refl

at-sbas : (i : ℕ) → 168 < i → i ≤ 207 → system_at i ≡ Sbas
at-sbas i low high =
    rw (no i 32 (omega (arith, low)), no i 59 (omega (arith, low)), no i 95 (omega (arith, low)), no i 158 (omega (arith, low)), no i 168 low, yes i 207 high) refl

at-navic : (i : ℕ) → 207 < i → system_at i ≡ Navic
at-navic i low =
    rw (no i 32 (omega (arith, low)), no i 59 (omega (arith, low)), no i 95 (omega (arith, low)), no i 158 (omega (arith, low)), no i 168 (omega (arith, low)), no i 207 low) refl

system-own : (s : System) (i : ℕ) → IsOfSystem s i → system_at i ≡ s
system-own Gps i h = at-gps i (omega (arith, h.1))
system-own Glonass i h = at-glonass i (omega (arith, h.0)) (omega (arith, h.1))
system-own Galileo i h = at-galileo i (omega (arith, h.0)) (omega (arith, h.1))
system-own Beidou i h = at-beidou i (omega (arith, h.0)) (omega (arith, h.1))
system-own Qzss i h = at-qzss i (omega (arith, h.0)) (omega (arith, h.1))
system-own Sbas i h = at-sbas i (omega (arith, h.0)) (omega (arith, h.1))
system-own Navic i h = at-navic i (omega (arith, h.0))

-- the ranges of the systems end within the index
range-end : (s : System) → satellites_before s + satellites_of_system s ≤ 221
range-end Gps = omega arith
range-end Glonass = omega arith
range-end Galileo = omega arith
range-end Beidou = omega arith
range-end Qzss = omega arith
range-end Sbas = omega arith
range-end Navic = omega arith

-- an index in the range of a system is of this system alone
pub apart : (s : System) (i : ℕ) → IsOfSystem s i → IsSatelliteIndex i × (system_at i ≡ s)
apart s i h = ((omega (arith, h.0), omega (arith, h.1, range-end s)), system-own s i h)

of-system : (s : System) (i : ℕ) → system_at i ≡ s → IsOfSystem s i → IsOfSystem (system_at i) i
of-system s i e h = subst (λ (t : System). IsOfSystem t i) (sym e) h

-- each index is in the range of its system
pub cover : (i : ℕ) → IsSatelliteIndex i → IsOfSystem (system_at i) i
cover i h = elim (leb_tells i 32) [
  | inl a ↦ of-system Gps i (at-gps i a.1) (omega (arith, h.0), omega (arith, a.1))
  | inr a ↦ elim (leb_tells i 59) [
    | inl b ↦ of-system Glonass i (at-glonass i a.1 b.1) (omega (arith, a.1), omega (arith, b.1))
    | inr b ↦ elim (leb_tells i 95) [
      | inl d ↦ of-system Galileo i (at-galileo i b.1 d.1) (omega (arith, b.1), omega (arith, d.1))
      | inr d ↦ elim (leb_tells i 158) [
        | inl e ↦ of-system Beidou i (at-beidou i d.1 e.1) (omega (arith, d.1), omega (arith, e.1))
        | inr e ↦ elim (leb_tells i 168) [
          | inl f ↦ of-system Qzss i (at-qzss i e.1 f.1) (omega (arith, e.1), omega (arith, f.1))
          | inr f ↦ elim (leb_tells i 207) [
            | inl g ↦ of-system Sbas i (at-sbas i f.1 g.1) (omega (arith, f.1), omega (arith, g.1))
            | inr g ↦ of-system Navic i (at-navic i g.1) (omega (arith, g.1), omega (arith, h.1))
          ]
        ]
      ]
    ]
  ]
]

-- ---- mask bits

index-taken : (s : System) (bit : ℕ) → 1 ≤ bit → bit ≤ satellites_of_system s → index_in s bit ≡ Some (satellites_before s + bit)
index-taken s bit low high = rw (yes 1 bit low, yes bit (satellites_of_system s) high) refl

-- the index of a mask bit, and that the bit is taken
pub index-parts : (s : System) (bit i : ℕ) → index_in s bit ≡ Some i → (1 ≤ bit) × (bit ≤ satellites_of_system s) × (i ≡ satellites_before s + bit)
index-parts s bit i e = elim (leb_tells 1 bit) [
  | inl a ↦ elim (leb_tells bit (satellites_of_system s)) [
    | inl b ↦ (let same : Some (satellites_before s + bit) ≡ Some i = sym (index-taken s bit a.1 b.1) ∙ e in (a.1, b.1, cc))
    | inr b ↦ (let none : None ≡ Some i = rw (a.0, b.0) at e in absurd cc)
  ]
  | inr a ↦ (let none : None ≡ Some i = rw (a.0) at e in absurd cc)
]

index-none : (s : System) (bit : ℕ) → index_in s bit ≡ None → 1 ≤ bit → satellites_of_system s < bit
index-none s bit e low = elim (leb_tells bit (satellites_of_system s)) [
  | inl b ↦ (let same : Some (satellites_before s + bit) ≡ None = sym (index-taken s bit low b.1) ∙ e in absurd cc)
  | inr b ↦ b.1
]

bit-own : (s : System) (bit i : ℕ) → i ≡ satellites_before s + bit → system_at i ≡ s → bit_at i ≡ bit
bit-own s bit i e h = rw h (omega (arith, e))

pub index_back : (s : System) (bit i : ℕ) → index_in s bit ≡ Some i → IsSatelliteIndex i × ((system_at i ≡ s) × (bit_at i ≡ bit))
index_back s bit i e =
    let p = index-parts s bit i e in
    let a = apart s i (omega (arith, p.0, p.2), omega (arith, p.1, p.2)) in
    (a.0, (a.1, bit-own s bit i p.2 a.1))

-- the mask bit of an index is taken
bit-range : (i : ℕ) → IsSatelliteIndex i → (1 ≤ bit_at i) × ((bit_at i ≤ satellites_of_system (system_at i)) × (satellites_before (system_at i) + bit_at i ≡ i))
bit-range i h =
    let r = cover i h in
    (omega (arith, r.0), (omega (arith, r.0, r.1), omega (arith, r.0)))

pub bit_back : (i : ℕ) → IsSatelliteIndex i → index_in (system_at i) (bit_at i) ≡ Some i
bit_back i h =
    let r = bit-range i h in
    index-taken (system_at i) (bit_at i) r.0 r.1.0 ∙ ap (λ (n : ℕ). Some n) r.1.1

-- ---- names

-- the system of a letter
abbrev lettered : ℕ → System
lettered c =
    cond (nat_eq c 71) Gps (cond (nat_eq c 82) Glonass (cond (nat_eq c 69) Galileo
    (cond (nat_eq c 67) Beidou (cond (nat_eq c 74) Qzss (cond (nat_eq c 83) Sbas Navic)))))

lettered-back : (s : System) → lettered (letter_of s) ≡ s
lettered-back Gps = refl
lettered-back Glonass = refl
lettered-back Galileo = refl
lettered-back Beidou = refl
lettered-back Qzss = refl
lettered-back Sbas = refl
lettered-back Navic = refl

same_letter : (s t : System) → letter_of s ≡ letter_of t → s ≡ t
same_letter s t e = sym (lettered-back s) ∙ (ap lettered e ∙ lettered-back t)

number-end : (s : System) → satellites_of_system s + name_offset s ≤ 63
number-end Gps = omega arith
number-end Glonass = omega arith
number-end Galileo = omega arith
number-end Beidou = omega arith
number-end Qzss = omega arith
number-end Sbas = omega arith
number-end Navic = omega arith

-- the number in a name has two digits
number-bound : (i : ℕ) → IsSatelliteIndex i → bit_at i + name_offset (system_at i) ≤ 99
number-bound i h = omega (arith, (bit-range i h).1.0, number-end (system_at i))

same_digits : (m n : ℕ) → m ≤ 99 → n ≤ 99 → last_digits 2 m ≡ last_digits 2 n → m ≡ n
same_digits m n a b e =
    let tens : 48 + m / 10 % 10 ≡ 48 + n / 10 % 10 = ap (λ (ds : List ℕ). get_or ds 0 0) e in
    let ones : 48 + m % 10 ≡ 48 + n % 10 = ap (λ (ds : List ℕ). get_or ds 1 0) e in
    omega (arith, a, b, tens, ones)

abbrev tail_of : List ℕ → List ℕ
tail_of [] = []
tail_of (x ∷ xs) = xs

same_index : (i j : ℕ) → IsSatelliteIndex i → IsSatelliteIndex j → system_at i ≡ system_at j → bit_at i ≡ bit_at j → i ≡ j
same_index i j h k s b =
    let before = ap satellites_before s in
    omega (arith, (bit-range i h).1.1, (bit-range j k).1.1, before, b)

pub same_satellite : (i j : ℕ) → IsSatelliteIndex i → IsSatelliteIndex j → index_name i ≡ index_name j → i ≡ j
same_satellite i j h k e =
    let letter : letter_of (system_at i) ≡ letter_of (system_at j) = ap (λ (ds : List ℕ). get_or ds 0 0) e in
    let s = same_letter (system_at i) (system_at j) letter in
    let digits : last_digits 2 (bit_at i + name_offset (system_at i)) ≡ last_digits 2 (bit_at j + name_offset (system_at j)) = ap tail_of e in
    let number = same_digits _ _ (number-bound i h) (number-bound j k) digits in
    let offset = ap name_offset s in
    same_index i j h k s (omega (arith, number, offset))

-- the answer to the name of a satellite is the satellite
pub reads_back : (i : ℕ) (answer : Option ℕ) → IsSatelliteIndex i
    → MatchOption answer ((j : ℕ) → IsSatelliteIndex j → index_name i ≢ index_name j) (λ j. IsSatelliteIndex j × (index_name i ≡ index_name j)) → answer ≡ Some i
reads_back i None h m = absurd (m i h refl)
reads_back i (Some j) h m = ap (λ (n : ℕ). Some n) (sym (same_satellite i j h m.0 m.1))

-- ---- reading a name

module _ (letter tens ones : ℕ) where
  abbrev IsAnswer : Option ℕ → Type 0
  IsAnswer r =
      MatchOption r ((i : ℕ) → IsSatelliteIndex i → letter ∷ tens ∷ ones ∷ [] ≢ index_name i) (λ i. IsSatelliteIndex i × (letter ∷ tens ∷ ones ∷ [] ≡ index_name i))

  abbrev IsNumber : Option ℕ → Type 0
  IsNumber d =
      MatchOption d ((n : ℕ) → n ≤ 99 → tens ∷ ones ∷ [] ≢ last_digits 2 n) (λ n. (n ≤ 99) × (tens ∷ ones ∷ [] ≡ last_digits 2 n))

  abbrev IsSystem : Option System → Type 0
  IsSystem o = MatchOption o ((s : System) → letter ≢ letter_of s) (λ s. letter ≡ letter_of s)

  -- no system has the letter
  pub no_letter : (o : Option System) (r : Option ℕ) → IsSystem o → o ≡ None → r ≡ None → IsAnswer r
  no_letter None None m e f = λ i h same. m (system_at i) (ap (λ (ds : List ℕ). get_or ds 0 0) same)
  no_letter (Some s) r m e f = absurd cc
  no_letter None (Some i) m e f = absurd cc

  -- no number has the digits
  pub no_digits : (d r : Option ℕ) → IsNumber d → d ≡ None → r ≡ None → IsAnswer r
  no_digits None None m e f = λ i h same. m (bit_at i + name_offset (system_at i)) (number-bound i h) (ap tail_of same)
  no_digits (Some n) r m e f = absurd cc
  no_digits None (Some i) m e f = absurd cc

  -- the parts of the name of an index, where the letter and the digits are known
  parts : (s : System) (n i : ℕ) → letter ≡ letter_of s → n ≤ 99 → tens ∷ ones ∷ [] ≡ last_digits 2 n → IsSatelliteIndex i
      → letter ∷ tens ∷ ones ∷ [] ≡ index_name i → (system_at i ≡ s) × (bit_at i + name_offset s ≡ n)
  parts s n i l few d h e =
      let first : letter ≡ letter_of (system_at i) = ap (λ (ds : List ℕ). get_or ds 0 0) e in
      let same = same_letter (system_at i) s (sym first ∙ l) in
      let digits : last_digits 2 (bit_at i + name_offset (system_at i)) ≡ last_digits 2 n = sym (ap tail_of e) ∙ d in
      let number = same_digits _ _ (number-bound i h) few digits in
      let offset = ap name_offset same in
      (same, omega (arith, number, offset))

  module _ (s : System) (n : ℕ) (o : Option System) (d : Option ℕ) (is_system : IsSystem o) (system : o ≡ Some s) (is_number : IsNumber d) (number : d ≡ Some n) where
    known-letter : letter ≡ letter_of s
    known-letter = subst IsSystem system is_system

    known-number : (n ≤ 99) × (tens ∷ ones ∷ [] ≡ last_digits 2 n)
    known-number = subst IsNumber number is_number

    -- the number is less than all of the system
    small : (k i : ℕ) → k ≡ name_offset s → n < k → IsSatelliteIndex i → ¬ (letter ∷ tens ∷ ones ∷ [] ≡ index_name i)
    small k i e less h same =
        let p = parts s n i known-letter known-number.0 known-number.1 h same in
        omega (arith, e, less, p.1)

    pub too_small : (k : ℕ) → k ≡ name_offset s → n < k → IsAnswer None
    too_small k e less = λ i h same. small k i e less h same

    -- the mask bit is not taken
    not_taken : (bit i : ℕ) → n ≡ bit + name_offset s → index_in s bit ≡ None → IsSatelliteIndex i → ¬ (letter ∷ tens ∷ ones ∷ [] ≡ index_name i)
    not_taken bit i e f h same =
        let p = parts s n i known-letter known-number.0 known-number.1 h same in
        let b = bit-range i h in
        let most = ap satellites_of_system p.0 in
        let low : 1 ≤ bit = omega (arith, b.0, p.1, e) in
        omega (arith, index-none s bit f low, b.1.0, most, p.1, e)

    answer : (bit : ℕ) (r : Option ℕ) → n ≡ bit + name_offset s → r ≡ index_in s bit → IsAnswer r
    answer bit None e f = λ i h same. not_taken bit i e (sym f) h same
    answer bit (Some i) e f =
        let back = index_back s bit i (sym f) in
        let offset = ap name_offset back.1.0 in
        let sum : n ≡ bit_at i + name_offset (system_at i) = omega (arith, e, offset, back.1.1) in
        (back.0, ap (λ (c : ℕ). c ∷ tens ∷ ones ∷ []) (known-letter ∙ ap letter_of (sym back.1.0)) ∙ ap (λ (ds : List ℕ). letter_of (system_at i) ∷ ds) (known-number.1 ∙ ap (last_digits 2) sum))

    -- the satellite of the mask bit
    pub by_bit : (k : ℕ) (r : Option ℕ) → k ≡ name_offset s → k ≤ n → r ≡ index_in s (n - k) → IsAnswer r
    by_bit k r e le f = answer (n - k) r (omega (arith, e, le)) f
