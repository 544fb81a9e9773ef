-- The labels of satellites of any systems.
use Rattle.std.proofs.Common.{◌≡◌, ◌⊎◌, ◌<◌, ◌≤◌, ◌+◌, ◌-◌, ◌/◌, ◌%◌, ℕ, true, false, List, [], ◌∷◌, nat_lt, nat_le, inl, inr, refl, sym, ap, ◌∙◌, arith}
use Rattle.std.proofs.lemmas.Bool.{and_from, and_left, and_right, cases_lt}
use Rattle.std.proofs.lemmas.Bool.Decides.{nat_tests}
use Rattle.rtk_message.specs.declared.system.System.{System}
use Rattle.rtk_message.specs.declared.system.System.TheVariants.{Gps, Glonass, Galileo, Beidou, Qzss, Sbas, Navic}
use Rattle.rtk_obs.specs.CivilText.{last_digits}
use Rattle.rtk_obs.specs.SatelliteIndex.{satellites_before, IsSatelliteIndex, IsOfSystem, system_at, letter_of, name_offset, index_name}
use Rattle.rtk_chart.specs.Groups.{first_group, second_group, is_in_group}
use Rattle.rtk_chart.specs.GroupLaws.{IsLabelled}
use Rattle.rtk_chart.specs.TextPicture.{satellite_label}
use Rattle.rtk_chart.specs.declared.groups.Group.{Group}

lt-true : (a b : ℕ) → a < b → nat_lt a b ≡ true
lt-true a b h = grind (arith, nat_tests)

lt-false : (a b : ℕ) → b ≤ a → nat_lt a b ≡ false
lt-false a b h = grind (arith, nat_tests)

le-true : (a b : ℕ) → a ≤ b → nat_le a b ≡ true
le-true a b h = grind (arith, nat_tests)

le-false : (a b : ℕ) → b < a → nat_le a b ≡ false
le-false a b h = grind (arith, nat_tests)

in-group : (g : Group) (i : ℕ) → g.before < i → i - g.before ≤ g.count → is_in_group g i ≡ true
in-group g i low high = and_from (nat_lt g.before i) (nat_le (i - g.before) g.count) (lt-true g.before i low) (le-true (i - g.before) g.count high)

before-group : (g : Group) (i : ℕ) → i ≤ g.before → is_in_group g i ≡ false
before-group g i low = and_left (nat_lt g.before i) (nat_le (i - g.before) g.count) (lt-false g.before i low)

behind-group : (g : Group) (i : ℕ) → g.count < i - g.before → is_in_group g i ≡ false
behind-group g i high = and_right (nat_lt g.before i) (nat_le (i - g.before) g.count) (le-false (i - g.before) g.count high)

tens : (n : ℕ) → n ≤ 99 → n / 10 % 10 ≡ n / 10
tens n few = omega (arith, few)

-- the label of a number of two digits
label-is : (letter n : ℕ) → n ≤ 99 → satellite_label letter n ≡ letter ∷ last_digits 2 n
label-is letter n few = ap (λ (t : ℕ). letter ∷ (48 + t) ∷ (48 + n % 10) ∷ []) (sym (tens n few))

-- the name of a satellite of a system
name-in : System → ℕ → List ℕ
name-in s i = letter_of s ∷ last_digits 2 (i - satellites_before s + name_offset s)

name-is : (s : System) (i : ℕ) → system_at i ≡ s → name-in s i ≡ index_name i
unfolding name-in
name-is s i e = sym (ap (λ (t : System). name-in t i) e)

labelled : (s : System) (i n : ℕ) → system_at i ≡ s → n ≡ i - satellites_before s + name_offset s → n ≤ 99 → satellite_label (letter_of s) n ≡ index_name i
unfolding name-in
labelled s i n e is few = label-is (letter_of s) n few ∙ ap (λ (m : ℕ). letter_of s ∷ last_digits 2 m) is ∙ name-is s i e

abbrev AreLabelled : System → ℕ → Type 0
AreLabelled s i = IsLabelled i (first_group s) (second_group s) ⊎ IsLabelled i (second_group s) (first_group s)

-- a satellite of the first group
in-first : (s : System) (i : ℕ) → system_at i ≡ s → satellites_before s < i → i - satellites_before s ≤ (first_group s).count → i ≤ satellites_before s + 32 → name_offset s ≤ 19 → AreLabelled s i
in-first s i e low high near few =
    inl (record {
      inside = in-group (first_group s) i low high;
      alone = before-group (second_group s) i near;
      label = labelled s i (name_offset s + (i - satellites_before s)) e (omega arith) (omega (arith, near, few));
    })

-- and of the second one
in-second : (s : System) (i : ℕ) → system_at i ≡ s → satellites_before s + 32 < i → i - (satellites_before s + 32) ≤ (second_group s).count → (first_group s).count ≤ 32
    → i ≤ satellites_before s + 63 → name_offset s ≤ 19 → AreLabelled s i
in-second s i e low high most near few =
    inr (record {
      inside = in-group (second_group s) i low high;
      alone = behind-group (first_group s) i (omega (arith, low, most));
      label = labelled s i (name_offset s + 32 + (i - (satellites_before s + 32))) e (omega (arith, low)) (omega (arith, near, few));
    })

pub are-labelled : (s : System) (i : ℕ) → system_at i ≡ s → IsOfSystem s i → AreLabelled s i
are-labelled Gps i e h = in-first Gps i e (omega (arith, h.0)) (omega (arith, h.1)) (omega (arith, h.1)) (omega arith)
are-labelled Glonass i e h = in-first Glonass i e (omega (arith, h.0)) (omega (arith, h.1)) (omega (arith, h.1)) (omega arith)
are-labelled Galileo i e h = elim (cases_lt 91 i) [
  | inl above ↦ in-second Galileo i e (omega (arith, above)) (omega (arith, h.1)) (omega arith) (omega (arith, h.1)) (omega arith)
  | inr low ↦ in-first Galileo i e (omega (arith, h.0)) (omega (arith, low)) (omega (arith, low)) (omega arith)
]
are-labelled Beidou i e h = elim (cases_lt 127 i) [
  | inl above ↦ in-second Beidou i e (omega (arith, above)) (omega (arith, h.1)) (omega arith) (omega (arith, h.1)) (omega arith)
  | inr low ↦ in-first Beidou i e (omega (arith, h.0)) (omega (arith, low)) (omega (arith, low)) (omega arith)
]
are-labelled Qzss i e h = in-first Qzss i e (omega (arith, h.0)) (omega (arith, h.1)) (omega (arith, h.1)) (omega arith)
are-labelled Sbas i e h = elim (cases_lt 200 i) [
  | inl above ↦ in-second Sbas i e (omega (arith, above)) (omega (arith, h.1)) (omega arith) (omega (arith, h.1)) (omega arith)
  | inr low ↦ in-first Sbas i e (omega (arith, h.0)) (omega (arith, low)) (omega (arith, low)) (omega arith)
]
are-labelled Navic i e h = in-first Navic i e (omega (arith, h.0)) (omega (arith, h.1)) (omega (arith, h.1)) (omega arith)
