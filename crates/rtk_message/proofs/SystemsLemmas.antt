-- The numbers of the types of multiple signal messages (MSM), and the sets of these types.
use Rattle.std.proofs.Common.{◌≡◌, ◌≢◌, ℕ, ◌+◌, ◌*◌, ◌/◌, ◌%◌, ◌≤◌, true, false, Option, Some, None, ◌⊎◌, inl, inr, refl, sym, ap, ◌∙◌, arith}
use Rattle.std.specs.Prelude.{◌==◌, if◌then◌else◌}
use Rattle.std.proofs.lemmas.Bool.{ne_eqb}
use Rattle.std.proofs.lemmas.Bool.Decides.{eqb_tells, leb_tells}
use Rattle.rtk_message.specs.declared.accepted.Accepted.{Accepted}
use Rattle.rtk_message.specs.declared.accepted.MsmKinds.{MsmKinds}
use Rattle.rtk_message.specs.declared.msm_kind.MsmKind.{MsmKind}
use Rattle.rtk_message.specs.declared.msm_kind.MsmKind.TheVariants.{Msm4, Msm5, Msm6, Msm7}
use Rattle.rtk_message.specs.declared.msm_type.MsmType.{MsmType}
use Rattle.rtk_message.specs.declared.system.System.{System}
use Rattle.rtk_message.specs.declared.system.System.TheVariants.{Gps, Glonass, Galileo, Beidou, Qzss, Sbas, Navic}
use Rattle.rtk_message.specs.Accepted.{no_kind, takes_kind, of_gps, four, takes, takes_some, with_1012, accepts}
use Rattle.rtk_message.specs.MsmForm.{IsWide}
use Rattle.rtk_message.specs.Systems.{tens_of, digit_of, number_of_type, system_of_tens, kind_of_digit, type_of_both, type_of_number}

-- ---- numbers

digit-range : (k : MsmKind) → (4 ≤ digit_of k) × (digit_of k ≤ 7)
digit-range Msm4 = (omega arith, omega arith)
digit-range Msm5 = (omega arith, omega arith)
digit-range Msm6 = (omega arith, omega arith)
digit-range Msm7 = (omega arith, omega arith)

tens-range : (s : System) → (107 ≤ tens_of s) × (tens_of s ≤ 113)
tens-range Gps = (omega arith, omega arith)
tens-range Glonass = (omega arith, omega arith)
tens-range Galileo = (omega arith, omega arith)
tens-range Beidou = (omega arith, omega arith)
tens-range Qzss = (omega arith, omega arith)
tens-range Sbas = (omega arith, omega arith)
tens-range Navic = (omega arith, omega arith)

pub number-range : (t : MsmType) → (1074 ≤ number_of_type t) × (number_of_type t ≤ 1137)
number-range t =
    let d = digit-range t.kind in
    let s = tens-range t.system in
    (omega (arith, d.0, s.0), omega (arith, d.1, s.1))

-- a type of another number than 1074 is a wide one
pub is_wide : (t : MsmType) → number_of_type t ≢ 1074 → IsWide t
is_wide t other = elim (leb_tells (number_of_type t) 1074) [
  | inl h ↦ absurd (other (omega (arith, h.1, (number-range t).0)))
  | inr h ↦ h.1
]

tens-back : (s : System) → system_of_tens (tens_of s) ≡ Some s
tens-back Gps = refl
tens-back Glonass = refl
tens-back Galileo = refl
tens-back Beidou = refl
tens-back Qzss = refl
tens-back Sbas = refl
tens-back Navic = refl

digit-back : (k : MsmKind) → kind_of_digit (digit_of k) ≡ Some k
digit-back Msm4 = refl
digit-back Msm5 = refl
digit-back Msm6 = refl
digit-back Msm7 = refl

-- the type is read back from its number
pub read_back : (t : MsmType) → type_of_number (number_of_type t) ≡ Some t
read_back t =
    let d = digit-range t.kind in
    let tens : number_of_type t / 10 ≡ tens_of t.system = omega (arith, d.0, d.1) in
    let digit : number_of_type t % 10 ≡ digit_of t.kind = omega (arith, d.0, d.1) in
    rw (tens, digit, tens-back t.system, digit-back t.kind) refl

pub same_type : (s t : MsmType) → number_of_type s ≡ number_of_type t → s ≡ t
same_type s t e = let both : Some s ≡ Some t = sym (read_back s) ∙ ap type_of_number e ∙ read_back t in cc

-- a chain of tests finds its first value or one of the others
chosen : {X : Type 0} (m k : ℕ) (x s : X) (rest : Option X) → (if m == k then Some x else rest) ≡ Some s → ((m ≡ k) × (x ≡ s)) ⊎ (rest ≡ Some s)
chosen m k x s rest e = elim (eqb_tells m k) [
  | inl h ↦ let found : Some x ≡ Some s = rw h.0 at e in inl (h.1, cc)
  | inr h ↦ inr (rw h.0 at e)
]

tens-own : (m : ℕ) (s : System) → system_of_tens m ≡ Some s → m ≡ tens_of s
tens-own m s e = elim (chosen m 107 Gps s _ e) [
  | inl h ↦ h.0 ∙ ap tens_of h.1
  | inr e8 ↦ elim (chosen m 108 Glonass s _ e8) [
    | inl h ↦ h.0 ∙ ap tens_of h.1
    | inr e9 ↦ elim (chosen m 109 Galileo s _ e9) [
      | inl h ↦ h.0 ∙ ap tens_of h.1
      | inr e10 ↦ elim (chosen m 110 Sbas s _ e10) [
        | inl h ↦ h.0 ∙ ap tens_of h.1
        | inr e11 ↦ elim (chosen m 111 Qzss s _ e11) [
          | inl h ↦ h.0 ∙ ap tens_of h.1
          | inr e12 ↦ elim (chosen m 112 Beidou s _ e12) [
            | inl h ↦ h.0 ∙ ap tens_of h.1
            | inr e13 ↦ elim (chosen m 113 Navic s None e13) [ inl h ↦ h.0 ∙ ap tens_of h.1 | inr none ↦ absurd cc ]
          ]
        ]
      ]
    ]
  ]
]

digit-own : (m : ℕ) (k : MsmKind) → kind_of_digit m ≡ Some k → m ≡ digit_of k
digit-own m k e = elim (chosen m 4 Msm4 k _ e) [
  | inl h ↦ h.0 ∙ ap digit_of h.1
  | inr e5 ↦ elim (chosen m 5 Msm5 k _ e5) [
    | inl h ↦ h.0 ∙ ap digit_of h.1
    | inr e6 ↦ elim (chosen m 6 Msm6 k _ e6) [
      | inl h ↦ h.0 ∙ ap digit_of h.1
      | inr e7 ↦ elim (chosen m 7 Msm7 k None e7) [ inl h ↦ h.0 ∙ ap digit_of h.1 | inr none ↦ absurd cc ]
    ]
  ]
]

both-own : (n : ℕ) (o : Option System) (p : Option MsmKind) (t : MsmType) → system_of_tens (n / 10) ≡ o → kind_of_digit (n % 10) ≡ p → type_of_both o p ≡ Some t → n ≡ number_of_type t
both-own n None p t tens digit e = absurd cc
both-own n (Some s) None t tens digit e = absurd cc
both-own n (Some s) (Some k) t tens digit e =
    let same : record { system = s; kind = k } ≡ t = cc in
    let high = tens-own (n / 10) s tens in
    let low = digit-own (n % 10) k digit in
    let number : n ≡ 10 * tens_of s + digit_of k = omega (arith, high, low) in
    number ∙ ap number_of_type same

-- a number is that of its type
pub number_of : (n : ℕ) (t : MsmType) → type_of_number n ≡ Some t → n ≡ number_of_type t
number_of n t e = both-own n (system_of_tens (n / 10)) (kind_of_digit (n % 10)) t refl refl e

-- ---- sets

-- a set reads the messages of a type by its number
pub accepts-type : (a : Accepted) (t : MsmType) → accepts a (number_of_type t) ≡ takes a t
accepts-type a t =
    let r = number-range t in
    let n = number_of_type t in
    rw (ne_eqb n 1004 (λ e. omega (arith, r.0, e)), ne_eqb n 1005 (λ e. omega (arith, r.0, e)), ne_eqb n 1006 (λ e. omega (arith, r.0, e)), ne_eqb n 1012 (λ e. omega (arith, r.0, e)), read_back t) refl

none-takes : (k : MsmKind) → takes_kind no_kind k ≡ false
none-takes Msm4 = refl
none-takes Msm5 = refl
none-takes Msm6 = refl
none-takes Msm7 = refl

-- a set of kinds of GPS has no type of another system
only-gps : (ks : MsmKinds) (s : System) (j : MsmKind) → takes (of_gps ks) (record { system = s; kind = j }) ≡ true → s ≡ Gps
only-gps ks Gps j e = refl
only-gps ks Glonass j e = absurd (cc (e, none-takes j))
only-gps ks Galileo j e = absurd (cc (e, none-takes j))
only-gps ks Beidou j e = absurd (cc (e, none-takes j))
only-gps ks Qzss j e = absurd (cc (e, none-takes j))
only-gps ks Sbas j e = absurd (cc (e, none-takes j))
only-gps ks Navic j e = absurd (cc (e, none-takes j))

pub takes-gps : (ks : MsmKinds) (t : MsmType) → takes (of_gps ks) t ≡ true → t.system ≡ Gps
takes-gps ks t e = only-gps ks t.system t.kind e

pub accepts-gps : (ks : MsmKinds) (t : MsmType) → accepts (of_gps ks) (number_of_type t) ≡ true → t.system ≡ Gps
accepts-gps ks t e = takes-gps ks t (sym (accepts-type (of_gps ks) t) ∙ e)

-- a set and 1012 has the types of the set
with-1012 : (a : Accepted) (s : System) (k : MsmKind) → takes (with_1012 a) (record { system = s; kind = k }) ≡ takes a (record { system = s; kind = k })
with-1012 a Gps k = refl
with-1012 a Glonass k = refl
with-1012 a Galileo k = refl
with-1012 a Beidou k = refl
with-1012 a Qzss k = refl
with-1012 a Sbas k = refl
with-1012 a Navic k = refl

pub takes-1012 : (a : Accepted) (t : MsmType) → takes (with_1012 a) t ≡ takes a t
takes-1012 a t = with-1012 a t.system t.kind

-- the set of the four has no type but 1074
four-type : (s : System) (k : MsmKind) → number_of_type (record { system = s; kind = k }) ≢ 1074 → takes four (record { system = s; kind = k }) ≡ false
four-type Gps Msm4 other = absurd (other refl)
four-type Gps Msm5 other = refl
four-type Gps Msm6 other = refl
four-type Gps Msm7 other = refl
four-type Glonass k other = none-takes k
four-type Galileo k other = none-takes k
four-type Beidou k other = none-takes k
four-type Qzss k other = none-takes k
four-type Sbas k other = none-takes k
four-type Navic k other = none-takes k

pub four-takes : (t : MsmType) → number_of_type t ≢ 1074 → takes four t ≡ false
four-takes t other = four-type t.system t.kind other

four-some : (n : ℕ) (o : Option MsmType) → type_of_number n ≡ o → n ≢ 1074 → takes_some four o ≡ false
four-some n None e other = refl
four-some n (Some t) e other = four-takes t (λ h. other (number_of n t e ∙ h))

-- the set of the four has no number of an MSM but 1074
pub four-number : (n : ℕ) → n ≢ 1074 → takes_some four (type_of_number n) ≡ false
four-number n other = four-some n (type_of_number n) refl other
