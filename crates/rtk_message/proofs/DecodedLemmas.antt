-- Bits begin with at most one message, and have no fault if they begin with one. Here alone, of these
-- lemmas on readings, the types are told apart.
use Rattle.std.proofs.Common.{◌≡◌, ◌≢◌, ℕ, ◌^◌, ◌<◌, ◌≤◌, Bool, false, inl, inr, List, ◌∷◌, ◌++◌, length, take, drop, Option, Some, None, Result, Ok, Err, refl, sym, ap, subst, ◌∙◌, append_assoc, arith, length-append, ltb}
use Rattle.std.specs.Prelude.{IfOk, IfErr, IsTrue}
use Rattle.std.proofs.lemmas.Bool.{le-ltb, ne_eqb}
use Rattle.std.proofs.lemmas.Bool.Decides.{eqb_tells}
use Rattle.std.proofs.lemmas.List.{take_at, drop_at}
use Rattle.std.proofs.Math.Nat.{mod-eq_of_lt}
use Rattle.rtk_bits.specs.Bits.{unsigned, bits_of}
use Rattle.rtk_bits.proofs.PublicLaws.{length-bits_of, unsigned-bits_of}
use Rattle.rtk_message.specs.declared.message.Message.{Message}
use Rattle.rtk_message.specs.declared.message.Message.TheVariants.{Obs1004, Arp1005, Arp1006, Msm1074}
use Rattle.rtk_message.specs.declared.fault.DecodeFault.{DecodeFault}
use Rattle.rtk_message.specs.declared.msm_kind.MsmKind.TheVariants.{Msm4}
use Rattle.rtk_message.specs.declared.msm_type.MsmType.{MsmType}
use Rattle.rtk_message.specs.Accepted.{accepts, four}
use Rattle.rtk_message.specs.AnyDecoded as any
use Rattle.rtk_message.specs.AnyDecoded.{if_any_fault_of, fault_of_type, fault_by}
use Rattle.rtk_message.specs.Fields.{Field, u, bits_of_fields}
use Rattle.rtk_message.specs.MsmForm as form
use Rattle.rtk_message.specs.Systems.{gps, number_of_type, type_of_number}
use Rattle.rtk_message.specs.Decoded.{number_of, fields_after_number, IsValid, Encodes, Decodes, first_fault, fault_after_number}
use Rattle.rtk_message.specs.Steps.AfterNumber.{BeginsAfterNumber}
use Rattle.rtk_message.specs.Obs1004Laws as obs1004
use Rattle.rtk_message.specs.Arp1005Laws as arp1005
use Rattle.rtk_message.specs.Arp1006Laws as arp1006
use Rattle.rtk_message.specs.Msm1074Laws as msm1074
use Rattle.rtk_message.proofs.MsmLemmas.{fault_of_1074}
use Rattle.rtk_message.proofs.SystemsLemmas.{is_wide, same_type, number_of as number_of_its_type, four-number}

-- the number in the bits, and what is after it
pub record Begins (bs : List Bool) (k : ℕ) (fs : List Field) (rest : List Bool) : Type 0 where
  pub long : ltb (length bs) 12 ≡ false
  pub number : unsigned (take 12 bs) ≡ k
  pub after : drop 12 bs ≡ bits_of_fields fs ++ rest

pub begins_with : (bs : List Bool) (k : ℕ) (fs : List Field) (rest : List Bool) → k < 2 ^ 12 → bs ≡ bits_of_fields (u 12 k ∷ fs) ++ rest → Begins bs k fs rest
begins_with bs k fs rest small e =
    let g : bs ≡ bits_of 12 k ++ (bits_of_fields fs ++ rest) = e ∙ append_assoc (bits_of 12 k) (bits_of_fields fs) rest in
    let len = length-bits_of 12 k in
    record {
      long = le-ltb (length bs) 12 (rw g (omega (arith, length-append (bits_of 12 k) (bits_of_fields fs ++ rest))));
      number = rw (g, take_at (bits_of 12 k) (bits_of_fields fs ++ rest) 12 len) (unsigned-bits_of 12 k ∙ mod-eq_of_lt small);
      after = rw g (drop_at (bits_of 12 k) (bits_of_fields fs ++ rest) 12 len);
    }

pub number_fits : (m : Message) → number_of m < 2 ^ 12
number_fits (Obs1004 m) = omega arith
number_fits (Arp1005 m) = omega arith
number_fits (Arp1006 m) = omega arith
number_fits (Msm1074 m) = omega arith

starts : {bs : List Bool} (m : Message) (s : Encodes bs m) → Begins bs (number_of m) (fields_after_number m) s.begins.0
starts {bs = bs} m s = begins_with bs (number_of m) (fields_after_number m) s.begins.0 (number_fits m) s.begins.1

-- ---- by the law `accepted` of each type

pub no_fault_after_number : (m : Message) (rest : List Bool) → IsValid m → fault_after_number (number_of m) (bits_of_fields (fields_after_number m) ++ rest) ≡ None
no_fault_after_number (Obs1004 m) rest v = obs1004.is_accepted m rest v
no_fault_after_number (Arp1005 m) rest v = arp1005.is_accepted m rest v
no_fault_after_number (Arp1006 m) rest v = arp1006.is_accepted m rest v
no_fault_after_number (Msm1074 m) rest v = msm1074.is_accepted m rest v

no_fault : (bs : List Bool) (m : Message) → Encodes bs m → first_fault bs ≡ None
no_fault bs m s = let b = starts m s in rw (b.long, b.number, b.after) (no_fault_after_number m s.begins.0 s.valid)

-- ---- by the law `unique` of each type

same_number : (bs : List Bool) (m n : Message) → Encodes bs m → Encodes bs n → number_of m ≡ number_of n
same_number bs m n s t = sym (starts m s).number ∙ (starts n t).number

same_bits : (bs : List Bool) (m n : Message) (s : Encodes bs m) (t : Encodes bs n) → bits_of_fields (fields_after_number m) ++ s.begins.0 ≡ bits_of_fields (fields_after_number n) ++ t.begins.0
same_bits bs m n s t = sym (starts m s).after ∙ (starts n t).after

pub one : (bs : List Bool) (m n : Message) → Encodes bs m → Encodes bs n → m ≡ n
one bs (Obs1004 m) (Obs1004 n) s t = ap Obs1004 (obs1004.is_unique m n s.begins.0 t.begins.0 s.valid t.valid (same_bits bs (Obs1004 m) (Obs1004 n) s t))
one bs (Arp1005 m) (Arp1005 n) s t = ap Arp1005 (arp1005.is_unique m n s.begins.0 t.begins.0 s.valid t.valid (same_bits bs (Arp1005 m) (Arp1005 n) s t))
one bs (Arp1006 m) (Arp1006 n) s t = ap Arp1006 (arp1006.is_unique m n s.begins.0 t.begins.0 s.valid t.valid (same_bits bs (Arp1006 m) (Arp1006 n) s t))
one bs (Msm1074 m) (Msm1074 n) s t = ap Msm1074 (msm1074.is_unique m n s.begins.0 t.begins.0 s.valid t.valid (same_bits bs (Msm1074 m) (Msm1074 n) s t))
one bs (Obs1004 m) (Arp1005 n) s t = absurd (omega (arith, same_number bs (Obs1004 m) (Arp1005 n) s t))
one bs (Obs1004 m) (Arp1006 n) s t = absurd (omega (arith, same_number bs (Obs1004 m) (Arp1006 n) s t))
one bs (Obs1004 m) (Msm1074 n) s t = absurd (omega (arith, same_number bs (Obs1004 m) (Msm1074 n) s t))
one bs (Arp1005 m) (Obs1004 n) s t = absurd (omega (arith, same_number bs (Arp1005 m) (Obs1004 n) s t))
one bs (Arp1005 m) (Arp1006 n) s t = absurd (omega (arith, same_number bs (Arp1005 m) (Arp1006 n) s t))
one bs (Arp1005 m) (Msm1074 n) s t = absurd (omega (arith, same_number bs (Arp1005 m) (Msm1074 n) s t))
one bs (Arp1006 m) (Obs1004 n) s t = absurd (omega (arith, same_number bs (Arp1006 m) (Obs1004 n) s t))
one bs (Arp1006 m) (Arp1005 n) s t = absurd (omega (arith, same_number bs (Arp1006 m) (Arp1005 n) s t))
one bs (Arp1006 m) (Msm1074 n) s t = absurd (omega (arith, same_number bs (Arp1006 m) (Msm1074 n) s t))
one bs (Msm1074 m) (Obs1004 n) s t = absurd (omega (arith, same_number bs (Msm1074 m) (Obs1004 n) s t))
one bs (Msm1074 m) (Arp1005 n) s t = absurd (omega (arith, same_number bs (Msm1074 m) (Arp1005 n) s t))
one bs (Msm1074 m) (Arp1006 n) s t = absurd (omega (arith, same_number bs (Msm1074 m) (Arp1006 n) s t))

-- the message that the bits begin with is the answer
only : (bs : List Bool) (r : Result Message DecodeFault) → IfOk r (λ m. Encodes bs m) → IfErr r (λ f. first_fault bs ≡ Some f) → (m : Message) → Encodes bs m → r ≡ Ok m
only bs (Ok n) ok err m s = ap Ok (one bs n m ok s)
only bs (Err f) ok err m s = let none = no_fault bs m s in absurd (cc (none, err))

-- ---- what follows the number decides

first_is : (n : ℕ) (left : List Bool) → n < 2 ^ 12 → first_fault (bits_of 12 n ++ left) ≡ fault_after_number n left
first_is n left small =
    let len = length-bits_of 12 n in
    let long : ltb (length (bits_of 12 n ++ left)) 12 ≡ false = le-ltb (length (bits_of 12 n ++ left)) 12 (omega (arith, length-append (bits_of 12 n) left, len)) in
    let same : unsigned (bits_of 12 n) ≡ n = unsigned-bits_of 12 n ∙ mod-eq_of_lt small in
    rw (long, take_at (bits_of 12 n) left 12 len, drop_at (bits_of 12 n) left 12 len, same) refl

message_of : (bs left : List Bool) (k : ℕ) (r : Result Message DecodeFault) → bs ≡ bits_of 12 k ++ left → IfOk r (λ m. BeginsAfterNumber k left m) → IfOk r (λ m. Encodes bs m)
message_of bs left k (Ok m) is f = record {
  valid = f.valid;
  begins = (f.begins.0, is ∙ rw (f.has_number, f.begins.1) (sym (append_assoc (bits_of 12 k) (bits_of_fields (fields_after_number m)) f.begins.0)));
}
message_of bs left k (Err e) is f = tt

fault_of : (bs left : List Bool) (k : ℕ) (r : Result Message DecodeFault) → k < 2 ^ 12 → bs ≡ bits_of 12 k ++ left → IfErr r (λ f. fault_after_number k left ≡ Some f) → IfErr r (λ f. first_fault bs ≡ Some f)
fault_of bs left k (Ok m) small is f = tt
fault_of bs left k (Err e) small is f = rw is (first_is k left small ∙ f)

-- bits that begin with the number k
pub decodes_after : (bs left : List Bool) (n k : ℕ) (r : Result Message DecodeFault) → k < 2 ^ 12 → bs ≡ bits_of 12 n ++ left → n ≡ k
    → IfOk r (λ m. BeginsAfterNumber k left m) → IfErr r (λ f. fault_after_number k left ≡ Some f) → Decodes bs r
decodes_after bs left n k r small is number ok err =
    let whole : bs ≡ bits_of 12 k ++ left = is ∙ ap (λ (m : ℕ). bits_of 12 m ++ left) number in
    let message = message_of bs left k r whole ok in
    let fault = fault_of bs left k r small whole err in
    record { message = message; fault = fault; only = only bs r message fault }

pub decodes_fault : (bs : List Bool) (f : DecodeFault) → first_fault bs ≡ Some f → Decodes bs (Err f)
decodes_fault bs f first = record { message = tt; fault = first; only = only bs (Err f) tt first }

-- ---- the four messages in the wider set

-- none of the four is a 1012
pub four_other : (m : Message) → number_of m ≢ 1012
four_other (Obs1004 m) e = absurd (omega (arith, e))
four_other (Arp1005 m) e = absurd (omega (arith, e))
four_other (Arp1006 m) e = absurd (omega (arith, e))
four_other (Msm1074 m) e = absurd (omega (arith, e))

-- none of the four is another MSM than 1074
pub four_number : (m : Message) → number_of m ≤ 1074
four_number (Obs1004 m) = omega arith
four_number (Arp1005 m) = omega arith
four_number (Arp1006 m) = omega arith
four_number (Msm1074 m) = omega arith

-- the set of the four has each of them
pub four_member : (m : Message) → IsTrue (accepts four (number_of m))
four_member (Obs1004 m) = refl
four_member (Arp1005 m) = refl
four_member (Arp1006 m) = refl
four_member (Msm1074 m) = refl

-- the fault after a number that is none of a 1012 and of another MSM than 1074
other-fault : (any_day : Bool) (n : ℕ) (bs : List Bool) (o : Option MsmType) → type_of_number n ≡ o → n ≢ 1012 → ((t : MsmType) → form.IsWide t → n ≢ number_of_type t)
    → fault_of_type any_day o n bs ≡ if_any_fault_of (fault_after_number n bs)
other-fault any_day n bs None e other none = rw (ne_eqb n 1012 other) refl
other-fault any_day n bs (Some t) e other none =
    let number : n ≡ number_of_type t = number_of_its_type n t e in
    elim (eqb_tells n 1074) [
      | inl h ↦
          let same : gps Msm4 ≡ t = same_type (gps Msm4) t (sym h.1 ∙ number) in
          subst (λ (x : MsmType). form.first_fault any_day x bs ≡ if_any_fault_of (fault_after_number n bs)) same (rw h.1 (sym (fault_of_1074 any_day bs)))
      | inr h ↦ absurd (none t (is_wide t (λ k. h.1 (number ∙ k))) number)
    ]

pub same_fault_of_other : (any_day : Bool) (n : ℕ) (bs : List Bool) → n ≢ 1012 → ((t : MsmType) → form.IsWide t → n ≢ number_of_type t) → any.fault_after_number any_day n bs ≡ if_any_fault_of (fault_after_number n bs)
same_fault_of_other any_day n bs other none = other-fault any_day n bs (type_of_number n) refl other none

-- the faults of the set of the four are those of `decode`
pub fault_by_four : (n : ℕ) (bs : List Bool) → fault_by four n bs ≡ if_any_fault_of (fault_after_number n bs)
fault_by_four n bs = elim (eqb_tells n 1004) [
  | inl e ↦ rw e.1 refl
  | inr e4 ↦ elim (eqb_tells n 1005) [
    | inl e ↦ rw e.1 refl
    | inr e5 ↦ elim (eqb_tells n 1006) [
      | inl e ↦ rw e.1 refl
      | inr e6 ↦ elim (eqb_tells n 1012) [
        | inl e ↦ rw e.1 refl
        | inr e12 ↦ elim (eqb_tells n 1074) [
          | inl e ↦ rw e.1 (sym (fault_of_1074 false bs))
          | inr e74 ↦ rw (e4.0, e5.0, e6.0, e12.0, e74.0, four-number n e74.1) refl
        ]
      ]
    ]
  ]
]
