-- The systems of codes and satellites.
use Rattle.std.proofs.Common.{◌≡◌, ◌∙◌, ◌==◌, ◌+◌, ◌<◌, ◌≤◌, ℕ, Bool, true, false, List, [], ◌∷◌, cond, inl, inr, refl, sym, ap, subst, arith}
use Rattle.std.specs.Prelude.{All, nat_le, if◌then◌else◌}
use Rattle.std.proofs.lemmas.Bool.{cases_lt, eqb-true}
use Rattle.std.proofs.lemmas.Bool.Decides.{nat_tests}
use Rattle.std.proofs.lemmas.List.Elements.{All-nil, All-cons}
use Rattle.rtk_message.specs.declared.system.System.{System}
use Rattle.rtk_message.specs.declared.system.System.TheVariants.{Gps, Glonass, Galileo, Beidou, Qzss, Sbas, Navic}
use Rattle.rtk_obs.specs.declared.any_code.AnyCode.{AnyCode}
use Rattle.rtk_obs.specs.AnyCode.{IsSignal, system_of}
use Rattle.rtk_obs.specs.SatelliteIndex.{IsSatelliteIndex, letter_of, satellites_before, satellites_of_system, system_at}
use Rattle.rtk_rinex.specs.MixedHead.{letter}
use Rattle.rtk_convert.specs.Rows.{codes_for}
use Rattle.rtk_convert.specs.Steps.OfferedMessage.{index_or_first}

-- the system of a letter
by_letter : ℕ → System
by_letter l =
    if l == 71 then Gps else if l == 82 then Glonass else if l == 69 then Galileo else
    if l == 67 then Beidou else if l == 74 then Qzss else if l == 83 then Sbas else Navic

by-letter : (s : System) → by_letter (letter_of s) ≡ s
unfolding by_letter
by-letter Gps = refl
by-letter Glonass = refl
by-letter Galileo = refl
by-letter Beidou = refl
by-letter Qzss = refl
by-letter Sbas = refl
by-letter Navic = refl

-- no two systems have one letter
pub letter-once : (a b : System) → letter_of a ≡ letter_of b → a ≡ b
letter-once a b h = sym (by-letter a) ∙ ap by_letter h ∙ by-letter b

pub system-by : (c : AnyCode) (s : System) → (letter c == letter_of s) ≡ true → system_of c ≡ s
system-by c s h = letter-once (system_of c) s (eqb-true (letter c) (letter_of s) h)

signals-if : (b : Bool) (s : ℕ) (c : AnyCode) (rest : List AnyCode) → (b ≡ true → IsSignal s c) → All (IsSignal s) rest → All (IsSignal s) (cond b (c ∷ rest) rest)
signals-if true s c rest is h = All-cons (IsSignal s) c rest (is refl) h
signals-if false s c rest is h = h

-- the codes of the row of a satellite are of its system
pub codes-are-signals : (listed : List AnyCode) (s : ℕ) → IsSatelliteIndex s → All (IsSignal s) (codes_for listed s)
codes-are-signals [] s hs = All-nil (IsSignal s)
codes-are-signals (c ∷ listed) s hs =
    signals-if (letter c == letter_of (system_at s)) s c (codes_for listed s) (λ is. (hs, system-by c (system_at s) is)) (codes-are-signals listed s hs)

-- ---- the satellites of a system

within : (a b : ℕ) → a ≤ b → nat_le a b ≡ true
within a b h = grind (arith, nat_tests)

above : (a b : ℕ) → b < a → nat_le a b ≡ false
above a b h = grind (arith, nat_tests)

pub at-gps : (n : ℕ) → n ≤ 32 → system_at n ≡ Gps
at-gps n h = rw (within n 32 h) refl

at-glonass : (n : ℕ) → 32 < n → n ≤ 59 → system_at n ≡ Glonass
at-glonass n a h = rw (above n 32 a, within n 59 h) refl

at-galileo : (n : ℕ) → 59 < n → n ≤ 95 → system_at n ≡ Galileo
at-galileo n a h = rw (above n 32 (omega arith), above n 59 a, within n 95 h) refl

at-beidou : (n : ℕ) → 95 < n → n ≤ 158 → system_at n ≡ Beidou
at-beidou n a h = rw (above n 32 (omega arith), above n 59 (omega arith), above n 95 a, within n 158 h) refl

at-qzss : (n : ℕ) → 158 < n → n ≤ 168 → system_at n ≡ Qzss
at-qzss n a h = rw (above n 32 (omega arith), above n 59 (omega arith), above n 95 (omega arith), above n 158 a, within n 168 h) refl

at-sbas : (n : ℕ) → 168 < n → n ≤ 207 → system_at n ≡ Sbas
at-sbas n a h = rw (above n 32 (omega arith), above n 59 (omega arith), above n 95 (omega arith), above n 158 (omega arith), above n 168 a, within n 207 h) refl

at-navic : (n : ℕ) → 207 < n → system_at n ≡ Navic
at-navic n a = rw (above n 32 (omega arith), above n 59 (omega arith), above n 95 (omega arith), above n 158 (omega arith), above n 168 (omega arith), above n 207 a) refl

-- the last satellite of a system
abbrev pub last_of : System → ℕ
last_of s = satellites_before s + satellites_of_system s

-- no system ends before GPS, which comes first
pub not-after-gps : (s : System) → 32 ≤ last_of s
not-after-gps Gps = omega arith
not-after-gps Glonass = omega arith
not-after-gps Galileo = omega arith
not-after-gps Beidou = omega arith
not-after-gps Qzss = omega arith
not-after-gps Sbas = omega arith
not-after-gps Navic = omega arith

-- what holds of each system with its satellites
by-satellite : (P : System → Type 0) (n : ℕ) → IsSatelliteIndex n → (n ≤ 32 → P Gps) → (32 < n → n ≤ 59 → P Glonass) → (59 < n → n ≤ 95 → P Galileo) → (95 < n → n ≤ 158 → P Beidou)
    → (158 < n → n ≤ 168 → P Qzss) → (168 < n → n ≤ 207 → P Sbas) → (207 < n → n ≤ 221 → P Navic) → P (system_at n)
by-satellite P n h g r e c j s i =
    elim (cases_lt 32 n) [
      | inr a ↦ subst P (sym (at-gps n a)) (g a)
      | inl b ↦ elim (cases_lt 59 n) [
        | inr a ↦ subst P (sym (at-glonass n b a)) (r b a)
        | inl b ↦ elim (cases_lt 95 n) [
          | inr a ↦ subst P (sym (at-galileo n b a)) (e b a)
          | inl b ↦ elim (cases_lt 158 n) [
            | inr a ↦ subst P (sym (at-beidou n b a)) (c b a)
            | inl b ↦ elim (cases_lt 168 n) [
              | inr a ↦ subst P (sym (at-qzss n b a)) (j b a)
              | inl b ↦ elim (cases_lt 207 n) [
                | inr a ↦ subst P (sym (at-sbas n b a)) (s b a)
                | inl b ↦ subst P (sym (at-navic n b)) (i b h.1)
              ]
            ]
          ]
        ]
      ]
    ]

-- a satellite is not after the last one of its system, which is one of the 221
pub not-after-last : (n : ℕ) → IsSatelliteIndex n → (n ≤ last_of (system_at n)) × (last_of (system_at n) ≤ 221)
not-after-last n h =
    by-satellite (λ (s : System). (n ≤ last_of s) × (last_of s ≤ 221)) n h
    (λ a. (omega arith, omega arith)) (λ b a. (omega arith, omega arith)) (λ b a. (omega arith, omega arith)) (λ b a. (omega arith, omega arith))
    (λ b a. (omega arith, omega arith)) (λ b a. (omega arith, omega arith)) (λ b a. (omega arith, omega arith))

-- those from a satellite to the last one of its system are of this system
pub same-to-last : (n m : ℕ) → IsSatelliteIndex n → n ≤ m → m ≤ last_of (system_at n) → system_at m ≡ system_at n
same-to-last n m h =
    by-satellite (λ (s : System). n ≤ m → m ≤ last_of s → system_at m ≡ s) n h
    (λ a from to. at-gps m (omega arith)) (λ b a from to. at-glonass m (omega arith) (omega arith)) (λ b a from to. at-galileo m (omega arith) (omega arith))
    (λ b a from to. at-beidou m (omega arith) (omega arith)) (λ b a from to. at-qzss m (omega arith) (omega arith)) (λ b a from to. at-sbas m (omega arith) (omega arith))
    (λ b a from to. at-navic m (omega arith))

-- the satellite of a mask bit is of the system
pub in-system : (s : System) (bit : ℕ) → 1 ≤ bit → bit ≤ satellites_of_system s → system_at (satellites_before s + bit) ≡ s
in-system Gps bit low high = at-gps (0 + bit) (omega arith)
in-system Glonass bit low high = at-glonass (32 + bit) (omega arith) (omega arith)
in-system Galileo bit low high = at-galileo (59 + bit) (omega arith) (omega arith)
in-system Beidou bit low high = at-beidou (95 + bit) (omega arith) (omega arith)
in-system Qzss bit low high = at-qzss (158 + bit) (omega arith) (omega arith)
in-system Sbas bit low high = at-sbas (168 + bit) (omega arith) (omega arith)
in-system Navic bit low high = at-navic (207 + bit) (omega arith)

-- ---- the index of a number

-- of a number that is an index
pub index-first : (n x : ℕ) → IsSatelliteIndex n → x ≡ n → x ≡ index_or_first n
index-first n x h is = is ∙ sym (rw (within 1 n h.0, within n 221 h.1) refl)

-- of another one
pub index-none : (n x : ℕ) → (IsSatelliteIndex n → ⊥) → x ≡ 1 → x ≡ index_or_first n
index-none n x h is = is ∙ sym (elim (cases_lt 221 n) [
  | inl high ↦ rw (within 1 n (omega arith), above n 221 high) refl
  | inr low ↦ elim (cases_lt 0 n) [
    | inl some ↦ absurd (h (omega arith, low))
    | inr zero ↦ rw (above 1 n (omega arith)) refl
  ]
])
