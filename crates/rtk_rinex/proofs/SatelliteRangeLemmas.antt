-- The satellites of all systems have ranges of their own, and names that are one to one, as in the laws of
-- rtk_obs.
use Rattle.std.proofs.Common.{◌≡◌, ℕ, ◌+◌, ◌/◌, ◌%◌, ◌<◌, ◌≤◌, true, false, List, [], ◌∷◌, get_or, nat_eq, cond, inl, inr, refl, sym, ap, subst, ◌∙◌, arith}
use Rattle.std.specs.Prelude.{nat_le}
use Rattle.std.proofs.lemmas.Bool.Decides.{leb_tells, nat_tests}
use Rattle.rtk_message.specs.declared.system.System.{System}
use Rattle.rtk_message.specs.declared.system.System.TheVariants.{Gps, Glonass, Galileo, Beidou, Qzss, Sbas, Navic}
use Rattle.rtk_obs.specs.CivilText.{last_digits}
use Rattle.rtk_obs.specs.SatelliteIndex.{satellites_of_system, satellites_before, IsSatelliteIndex, IsOfSystem, system_at, bit_at, letter_of, name_offset, index_name}

yes : (a b : ℕ) → a ≤ b → nat_le a b ≡ true
yes a b h = grind (arith, nat_tests)

no : (a b : ℕ) → b < a → nat_le a b ≡ false
no a b h = grind (arith, nat_tests)

-- ---- the system of an index

pub at-gps : (i : ℕ) → i ≤ 32 → system_at i ≡ Gps
at-gps i high = rw (yes i 32 high) refl

pub at-glonass : (i : ℕ) → 32 < i → i ≤ 59 → system_at i ≡ Glonass
at-glonass i low high = rw (no i 32 low, yes i 59 high) refl

pub at-galileo : (i : ℕ) → 59 < i → i ≤ 95 → system_at i ≡ Galileo
at-galileo i low high = rw (no i 32 (omega (arith, low)), no i 59 low, yes i 95 high) refl

pub at-beidou : (i : ℕ) → 95 < i → i ≤ 158 → system_at i ≡ Beidou
at-beidou i low high = rw (no i 32 (omega (arith, low)), no i 59 (omega (arith, low)), no i 95 low, yes i 158 high) refl

pub at-qzss : (i : ℕ) → 158 < i → i ≤ 168 → system_at i ≡ Qzss
at-qzss i low high =
    rw (no i 32 (omega (arith, low)), no i 59 (omega (arith, low)), no i 95 (omega (arith, low)), no i 158 low, yes i 168 high) refl

pub at-sbas : (i : ℕ) → 168 < i → i ≤ 207 → system_at i ≡ Sbas
at-sbas i low high =
    rw (no i 32 (omega (arith, low)), no i 59 (omega (arith, low)), no i 95 (omega (arith, low)), no i 158 (omega (arith, low)), no i 168 low, yes i 207 high) refl

pub at-navic : (i : ℕ) → 207 < i → system_at i ≡ Navic
at-navic i low =
    rw (no i 32 (omega (arith, low)), no i 59 (omega (arith, low)), no i 95 (omega (arith, low)), no i 158 (omega (arith, low)), no i 168 (omega (arith, low)), no i 207 low) refl

of-system : (s : System) (i : ℕ) → system_at i ≡ s → IsOfSystem s i → IsOfSystem (system_at i) i
of-system s i e h = subst (λ (t : System). IsOfSystem t i) (sym e) h

-- each index is in the range of its system
pub cover : (i : ℕ) → IsSatelliteIndex i → IsOfSystem (system_at i) i
cover i h = elim (leb_tells i 32) [
  | inl a ↦ of-system Gps i (at-gps i a.1) (omega (arith, h.0), omega (arith, a.1))
  | inr a ↦ elim (leb_tells i 59) [
    | inl b ↦ of-system Glonass i (at-glonass i a.1 b.1) (omega (arith, a.1), omega (arith, b.1))
    | inr b ↦ elim (leb_tells i 95) [
      | inl d ↦ of-system Galileo i (at-galileo i b.1 d.1) (omega (arith, b.1), omega (arith, d.1))
      | inr d ↦ elim (leb_tells i 158) [
        | inl e ↦ of-system Beidou i (at-beidou i d.1 e.1) (omega (arith, d.1), omega (arith, e.1))
        | inr e ↦ elim (leb_tells i 168) [
          | inl f ↦ of-system Qzss i (at-qzss i e.1 f.1) (omega (arith, e.1), omega (arith, f.1))
          | inr f ↦ elim (leb_tells i 207) [
            | inl g ↦ of-system Sbas i (at-sbas i f.1 g.1) (omega (arith, f.1), omega (arith, g.1))
            | inr g ↦ of-system Navic i (at-navic i g.1) (omega (arith, g.1), omega (arith, h.1))
          ]
        ]
      ]
    ]
  ]
]

-- the mask bit of an index is taken
pub bit-range : (i : ℕ) → IsSatelliteIndex i → (1 ≤ bit_at i) × ((bit_at i ≤ satellites_of_system (system_at i)) × (satellites_before (system_at i) + bit_at i ≡ i))
bit-range i h =
    let r = cover i h in
    (omega (arith, r.0), (omega (arith, r.0, r.1), omega (arith, r.0)))

-- the system of a letter
abbrev lettered : ℕ → System
lettered c =
    cond (nat_eq c 71) Gps (cond (nat_eq c 82) Glonass (cond (nat_eq c 69) Galileo
    (cond (nat_eq c 67) Beidou (cond (nat_eq c 74) Qzss (cond (nat_eq c 83) Sbas Navic)))))

lettered-back : (s : System) → lettered (letter_of s) ≡ s
lettered-back Gps = refl
lettered-back Glonass = refl
lettered-back Galileo = refl
lettered-back Beidou = refl
lettered-back Qzss = refl
lettered-back Sbas = refl
lettered-back Navic = refl

same_letter : (s t : System) → letter_of s ≡ letter_of t → s ≡ t
same_letter s t e = sym (lettered-back s) ∙ (ap lettered e ∙ lettered-back t)

number-end : (s : System) → satellites_of_system s + name_offset s ≤ 63
number-end Gps = omega arith
number-end Glonass = omega arith
number-end Galileo = omega arith
number-end Beidou = omega arith
number-end Qzss = omega arith
number-end Sbas = omega arith
number-end Navic = omega arith

-- the number in a name has two digits
number-bound : (i : ℕ) → IsSatelliteIndex i → bit_at i + name_offset (system_at i) ≤ 99
number-bound i h = omega (arith, (bit-range i h).1.0, number-end (system_at i))

same_digits : (m n : ℕ) → m ≤ 99 → n ≤ 99 → last_digits 2 m ≡ last_digits 2 n → m ≡ n
same_digits m n a b e =
    let tens : 48 + m / 10 % 10 ≡ 48 + n / 10 % 10 = ap (λ (ds : List ℕ). get_or ds 0 0) e in
    let ones : 48 + m % 10 ≡ 48 + n % 10 = ap (λ (ds : List ℕ). get_or ds 1 0) e in
    omega (arith, a, b, tens, ones)

abbrev tail_of : List ℕ → List ℕ
tail_of [] = []
tail_of (x ∷ xs) = xs

same_index : (i j : ℕ) → IsSatelliteIndex i → IsSatelliteIndex j → system_at i ≡ system_at j → bit_at i ≡ bit_at j → i ≡ j
same_index i j h k s b =
    let before = ap satellites_before s in
    omega (arith, (bit-range i h).1.1, (bit-range j k).1.1, before, b)

pub same_satellite : (i j : ℕ) → IsSatelliteIndex i → IsSatelliteIndex j → index_name i ≡ index_name j → i ≡ j
same_satellite i j h k e =
    let letter : letter_of (system_at i) ≡ letter_of (system_at j) = ap (λ (ds : List ℕ). get_or ds 0 0) e in
    let s = same_letter (system_at i) (system_at j) letter in
    let digits : last_digits 2 (bit_at i + name_offset (system_at i)) ≡ last_digits 2 (bit_at j + name_offset (system_at j)) = ap tail_of e in
    let number = same_digits _ _ (number-bound i h) (number-bound j k) digits in
    let offset = ap name_offset s in
    same_index i j h k s (omega (arith, number, offset))
