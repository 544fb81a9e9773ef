-- Bits begin with at most one message of the wider set, and have no fault if they begin with one.
-- What `decode` answers is the case of 1004, 1005, 1006 and 1074.
use Rattle.std.proofs.Common.{◌≡◌, ◌≢◌, ℕ, ◌^◌, ◌<◌, Bool, true, false, List, ◌++◌, length, take, drop, Option, Some, None, Result, Ok, Err, refl, sym, ap, subst, ◌∙◌, append_assoc, arith, length-append, ltb}
use Rattle.std.specs.Prelude.{IfSome, IfOk, IfErr, IsTrue, if◌then◌else◌}
use Rattle.std.proofs.lemmas.Bool.{le-ltb, ltb-true}
use Rattle.std.proofs.lemmas.List.{take_at, drop_at}
use Rattle.std.proofs.Math.Nat.{mod-eq_of_lt}
use Rattle.rtk_bits.specs.Bits.{unsigned, bits_of}
use Rattle.rtk_bits.proofs.PublicLaws.{length-bits_of, unsigned-bits_of}
use Rattle.rtk_message.specs.declared.accepted.Accepted.{Accepted}
use Rattle.rtk_message.specs.declared.accepted.MsmKinds.{MsmKinds}
use Rattle.rtk_message.specs.declared.any_fault.AnyFault.{AnyFault}
use Rattle.rtk_message.specs.declared.any_fault.AnyFault.TheVariants.{NoNumber, Other, Short, EpochRange, TooManyCells}
use Rattle.rtk_message.specs.declared.any_message.AnyMessage.{AnyMessage}
use Rattle.rtk_message.specs.declared.any_message.AnyMessage.TheVariants.{Message, Msm, Obs1012}
use Rattle.rtk_message.specs.declared.fault.DecodeFault.{DecodeFault}
use Rattle.rtk_message.specs.declared.fault.DecodeFault.TheVariants as fault
use Rattle.rtk_message.specs.declared.message.Message as declared_message
use Rattle.rtk_message.specs.declared.message.Message.TheVariants as message
use Rattle.rtk_message.specs.declared.msm_type.MsmType.{MsmType}
use Rattle.rtk_message.specs.declared.system.System.{System}
use Rattle.rtk_message.specs.declared.system.System.TheVariants.{Gps}
use Rattle.rtk_message.specs.Accepted.{of_gps, accepts, four, takes}
use Rattle.rtk_message.specs.AnyFaultCode.{any_fault_of}
use Rattle.rtk_message.specs.Fields.{week_ms, bits_of_fields}
use Rattle.rtk_message.specs.Decoded as decoded
use Rattle.rtk_message.specs.MsmForm as form
use Rattle.rtk_message.specs.Obs1012 as obs1012
use Rattle.rtk_message.specs.Obs1012Laws as obs1012_laws
use Rattle.rtk_message.specs.AnyDecoded.{number_of, tow_of, fields_after_number, IsValid, Encodes, DecodesBy, any_of, if_any_fault_of, fault_of_type, fault_after_number, fault_by, first_fault, takes_clock}
use Rattle.rtk_message.specs.Systems.{number_of_type, tells_time}
use Rattle.rtk_message.specs.Steps.AfterNumber.{BeginsAfterNumber}
use Rattle.rtk_message.specs.Steps.AfterAnyNumber.{BeginsAfterAnyNumber}
use Rattle.rtk_message.proofs.DecodedLemmas as four_lemmas
use Rattle.rtk_message.proofs.MsmLemmas as msm
use Rattle.rtk_message.proofs.SystemsLemmas.{number-range, read_back, same_type, accepts-type, accepts-gps, four-takes}

-- ---- the numbers

number_fits : (m : AnyMessage) → number_of m < 2 ^ 12
number_fits (Message m) = four_lemmas.number_fits m
number_fits (Msm m) = omega (arith, (number-range (form.type_of m)).1)
number_fits (Obs1012 m) = omega arith

-- ---- what follows the number decides

pub first_is : (a : Accepted) (n : ℕ) (left : List Bool) → n < 2 ^ 12 → first_fault a (bits_of 12 n ++ left) ≡ fault_by a n left
first_is a n left small =
    let len = length-bits_of 12 n in
    let long : ltb (length (bits_of 12 n ++ left)) 12 ≡ false = le-ltb (length (bits_of 12 n ++ left)) 12 (omega (arith, length-append (bits_of 12 n) left, len)) in
    let same : unsigned (bits_of 12 n) ≡ n = unsigned-bits_of 12 n ∙ mod-eq_of_lt small in
    rw (long, take_at (bits_of 12 n) left 12 len, drop_at (bits_of 12 n) left 12 len, same) refl

-- the fault after the number of an MSM
pub type_fault : (any_day : Bool) (t : MsmType) (bs : List Bool) → fault_after_number any_day (number_of_type t) bs ≡ form.first_fault any_day t bs
type_fault any_day t bs = ap (λ (o : Option MsmType). fault_of_type any_day o (number_of_type t) bs) (read_back t)

pub fault_after_type : {X : Type 0} (any_day : Bool) (t : MsmType) (bs : List Bool) (r : Result X AnyFault) → IfErr r (λ f. form.first_fault any_day t bs ≡ Some f)
    → IfErr r (λ f. fault_after_number any_day (number_of_type t) bs ≡ Some f)
fault_after_type any_day t bs (Ok x) f = tt
fault_after_type any_day t bs (Err e) f = type_fault any_day t bs ∙ f

-- the fault after the number of a 1012
pub fault_after_1012 : (bs : List Bool) (f : DecodeFault) → obs1012.first_fault bs ≡ Some f → fault_after_number false 1012 bs ≡ Some (any_fault_of f)
fault_after_1012 bs f e = ap if_any_fault_of e

-- a message after another number than that of an MSM has no clock that is left out
clock_of_one : (any_day : Bool) (k : ℕ) (bs : List Bool) (m : AnyMessage) → ((t : MsmType) → form.IsWide t → k ≢ number_of_type t) → BeginsAfterAnyNumber k bs m → takes_clock any_day m ≡ true
clock_of_one any_day k bs (Message m) none f = refl
clock_of_one any_day k bs (Msm m) none f = absurd (none (form.type_of m) f.valid.wide (sym f.has_number))
clock_of_one any_day k bs (Obs1012 m) none f = refl

pub clock_after : (any_day : Bool) (k : ℕ) (bs : List Bool) (r : Result AnyMessage AnyFault) → ((t : MsmType) → form.IsWide t → k ≢ number_of_type t) → IfOk r (λ m. BeginsAfterAnyNumber k bs m)
    → IfOk r (λ m. IsTrue (takes_clock any_day m))
clock_after any_day k bs (Ok m) none f = clock_of_one any_day k bs m none f
clock_after any_day k bs (Err e) none f = tt

-- ---- bits that begin with a message

starts : {bs : List Bool} (m : AnyMessage) (s : Encodes bs m) → four_lemmas.Begins bs (number_of m) (fields_after_number m) s.begins.0
starts {bs = bs} m s = four_lemmas.begins_with bs (number_of m) (fields_after_number m) s.begins.0 (number_fits m) s.begins.1

no_fault_after : (any_day : Bool) (m : AnyMessage) (rest : List Bool) → IsValid m → takes_clock any_day m ≡ true → fault_after_number any_day (number_of m) (bits_of_fields (fields_after_number m) ++ rest) ≡ None
no_fault_after any_day (Message m) rest v clock =
    let few = four_lemmas.four_number m in
    four_lemmas.same_fault_of_other any_day (decoded.number_of m) (bits_of_fields (decoded.fields_after_number m) ++ rest) (four_lemmas.four_other m) (λ t wide e. omega (arith, few, wide, e))
    ∙ ap if_any_fault_of (four_lemmas.no_fault_after_number m rest v)
no_fault_after any_day (Msm m) rest v clock = type_fault any_day (form.type_of m) (bits_of_fields (form.table m) ++ rest) ∙ msm.is_accepted any_day m rest v.form clock
no_fault_after any_day (Obs1012 m) rest v clock = ap if_any_fault_of (obs1012_laws.is_accepted m rest v)

no_fault : (a : Accepted) (bs : List Bool) (m : AnyMessage) → IsTrue (accepts a (number_of m)) → IsTrue (takes_clock a.obs1012 m) → Encodes bs m → first_fault a bs ≡ None
no_fault a bs m member clock s =
    let b = starts m s in
    let is : accepts a (number_of m) ≡ true = member in
    rw (b.long, b.number, b.after, is) (no_fault_after a.obs1012 m s.begins.0 s.valid clock)

same_number : (bs : List Bool) (m n : AnyMessage) → Encodes bs m → Encodes bs n → number_of m ≡ number_of n
same_number bs m n s t = sym (starts m s).number ∙ (starts n t).number

same_bits : (bs : List Bool) (m n : AnyMessage) (s : Encodes bs m) (t : Encodes bs n) → bits_of_fields (fields_after_number m) ++ s.begins.0 ≡ bits_of_fields (fields_after_number n) ++ t.begins.0
same_bits bs m n s t = sym (starts m s).after ∙ (starts n t).after

one : (bs : List Bool) (m n : AnyMessage) → Encodes bs m → Encodes bs n → m ≡ n
one bs (Message m) (Message n) s t = ap Message (four_lemmas.one bs m n (record { valid = s.valid; begins = s.begins }) (record { valid = t.valid; begins = t.begins }))
one bs (Message m) (Msm n) s t = absurd (omega (arith, same_number bs (Message m) (Msm n) s t, four_lemmas.four_number m, t.valid.wide))
one bs (Message m) (Obs1012 n) s t = absurd (four_lemmas.four_other m (same_number bs (Message m) (Obs1012 n) s t))
one bs (Msm m) (Message n) s t = absurd (omega (arith, same_number bs (Msm m) (Message n) s t, four_lemmas.four_number n, s.valid.wide))
one bs (Msm m) (Msm n) s t =
    let types : form.type_of m ≡ form.type_of n = same_type (form.type_of m) (form.type_of n) (same_number bs (Msm m) (Msm n) s t) in
    ap Msm (msm.is_unique m n s.begins.0 t.begins.0 types s.valid.form t.valid.form (same_bits bs (Msm m) (Msm n) s t))
one bs (Msm m) (Obs1012 n) s t = absurd (omega (arith, same_number bs (Msm m) (Obs1012 n) s t, s.valid.wide))
one bs (Obs1012 m) (Message n) s t = absurd (four_lemmas.four_other n (sym (same_number bs (Obs1012 m) (Message n) s t)))
one bs (Obs1012 m) (Msm n) s t = absurd (omega (arith, same_number bs (Obs1012 m) (Msm n) s t, t.valid.wide))
one bs (Obs1012 m) (Obs1012 n) s t = ap Obs1012 (obs1012_laws.is_unique m n s.begins.0 t.begins.0 s.valid t.valid (same_bits bs (Obs1012 m) (Obs1012 n) s t))

-- the message of the set that the bits begin with is the answer
only : (a : Accepted) (bs : List Bool) (r : Result AnyMessage AnyFault) → IfOk r (λ m. Encodes bs m) → IfErr r (λ f. first_fault a bs ≡ Some f) → (m : AnyMessage) → IsTrue (accepts a (number_of m)) → IsTrue (takes_clock a.obs1012 m) → Encodes bs m → r ≡ Ok m
only a bs (Ok n) ok err m member clock s = ap Ok (one bs n m ok s)
only a bs (Err f) ok err m member clock s = let none = no_fault a bs m member clock s in absurd (cc (none, err))

message_of : (bs left : List Bool) (k : ℕ) (r : Result AnyMessage AnyFault) → bs ≡ bits_of 12 k ++ left → IfOk r (λ m. BeginsAfterAnyNumber k left m) → IfOk r (λ m. Encodes bs m)
message_of bs left k (Ok m) is f = record {
  valid = f.valid;
  begins = (f.begins.0, is ∙ rw (f.has_number, f.begins.1) (sym (append_assoc (bits_of 12 k) (bits_of_fields (fields_after_number m)) f.begins.0)));
}
message_of bs left k (Err e) is f = tt

member_of : (a : Accepted) (left : List Bool) (k : ℕ) (r : Result AnyMessage AnyFault) → accepts a k ≡ true → IfOk r (λ m. BeginsAfterAnyNumber k left m) → IfOk r (λ m. IsTrue (accepts a (number_of m)))
member_of a left k (Ok m) member f = rw f.has_number member
member_of a left k (Err e) member f = tt

fault_of : (a : Accepted) (bs left : List Bool) (k : ℕ) (r : Result AnyMessage AnyFault) → k < 2 ^ 12 → bs ≡ bits_of 12 k ++ left → accepts a k ≡ true → IfErr r (λ f. fault_after_number a.obs1012 k left ≡ Some f) → IfErr r (λ f. first_fault a bs ≡ Some f)
fault_of a bs left k (Ok m) small is member f = tt
fault_of a bs left k (Err e) small is member f = rw is (first_is a k left small ∙ rw member f)

-- bits that begin with a number of the set
pub decodes_after : (a : Accepted) (bs left : List Bool) (n k : ℕ) (r : Result AnyMessage AnyFault) → n < 2 ^ 12 → bs ≡ bits_of 12 n ++ left → accepts a n ≡ true → n ≡ k
    → IfOk r (λ m. BeginsAfterAnyNumber k left m) → IfOk r (λ m. IsTrue (takes_clock a.obs1012 m)) → IfErr r (λ f. fault_after_number a.obs1012 k left ≡ Some f) → DecodesBy a bs r
decodes_after a bs left n k r small is member number ok clock err =
    let whole : bs ≡ bits_of 12 k ++ left = is ∙ ap (λ (m : ℕ). bits_of 12 m ++ left) number in
    let of_set : accepts a k ≡ true = sym (ap (accepts a) number) ∙ member in
    let message = message_of bs left k r whole ok in
    let fault = fault_of a bs left k r (omega (arith, small, number)) whole of_set err in
    record { message = message; accepted = member_of a left k r of_set ok; clock = clock; fault = fault; only = only a bs r message fault }

pub decodes_fault : (a : Accepted) (bs : List Bool) (f : AnyFault) → first_fault a bs ≡ Some f → DecodesBy a bs (Err f)
decodes_fault a bs f first = record { message = tt; accepted = tt; clock = tt; fault = first; only = only a bs (Err f) tt first }

-- bits that begin with another number
pub decodes_other : (a : Accepted) (bs left : List Bool) (n : ℕ) → n < 2 ^ 12 → bs ≡ bits_of 12 n ++ left → accepts a n ≡ false → DecodesBy a bs (Err (Other n))
decodes_other a bs left n small is out = decodes_fault a bs (Other n) (rw is (first_is a n left small ∙ rw out refl))

-- ---- one of the four messages

-- the same reading after the number, of a number that is none of another MSM than 1074
pub after_four : (k : ℕ) (bs : List Bool) (r : Result declared_message.Message DecodeFault) → IfOk r (λ m. BeginsAfterNumber k bs m) → IfOk (any_of r) (λ m. BeginsAfterAnyNumber k bs m)
after_four k bs (Ok m) f = record { has_number = f.has_number; valid = f.valid; begins = f.begins }
after_four k bs (Err e) f = tt

pub fault_after_four : (any_day : Bool) (k : ℕ) (bs : List Bool) (r : Result declared_message.Message DecodeFault) → fault_after_number any_day k bs ≡ if_any_fault_of (decoded.fault_after_number k bs) → IfErr r (λ f. decoded.fault_after_number k bs ≡ Some f) → IfErr (any_of r) (λ f. fault_after_number any_day k bs ≡ Some f)
fault_after_four any_day k bs (Ok m) same f = tt
fault_after_four any_day k bs (Err e) same f = same ∙ ap if_any_fault_of f

pub clock_of_four : (any_day : Bool) (r : Result declared_message.Message DecodeFault) → IfOk (any_of r) (λ m. IsTrue (takes_clock any_day m))
clock_of_four any_day (Ok m) = refl
clock_of_four any_day (Err e) = tt

if_short : (b : Bool) (x : Option DecodeFault) → (if b then Some NoNumber else if_any_fault_of x) ≡ if_any_fault_of (if b then Some fault.NoNumber else x)
if_short true x = refl
if_short false x = refl

first_by_four : (bs : List Bool) → first_fault four bs ≡ if_any_fault_of (decoded.first_fault bs)
first_by_four bs = rw (four_lemmas.fault_by_four (unsigned (take 12 bs)) (drop 12 bs)) (if_short (ltb (length bs) 12) (decoded.fault_after_number (unsigned (take 12 bs)) (drop 12 bs)))

not_wide : (t : MsmType) → form.IsWide t → IsTrue (accepts four (number_of_type t)) → ⊥
not_wide t wide member =
    let taken : takes four t ≡ true = sym (accepts-type four t) ∙ member in
    cc (taken, four-takes t (λ e. omega (arith, wide, e)))

pub by_four : (bs : List Bool) (r : Result declared_message.Message DecodeFault) → decoded.Decodes bs r → DecodesBy four bs (any_of r)
by_four bs (Ok m) d =
    let message : Encodes bs (Message m) = record { valid = d.message.valid; begins = d.message.begins } in
    record { message = message; accepted = four_lemmas.four_member m; clock = refl; fault = tt; only = only four bs (Ok (Message m)) message tt }
by_four bs (Err f) d = decodes_fault four bs _ (first_by_four bs ∙ ap if_any_fault_of d.fault)

not-1012 : false ≡ true → ⊥
not-1012 e = absurd cc

-- `decode` finds one answer, which is the only one
some_fault : (o : Option DecodeFault) (f : AnyFault) → if_any_fault_of o ≡ Some f → (g : DecodeFault) × (o ≡ Some g) × (f ≡ any_fault_of g)
some_fault None f e = absurd cc
some_fault (Some g) f e = let same : f ≡ any_fault_of g = cc in (g, refl, same)

-- two causes of `decode` that give one cause are the same
cause_of : AnyFault → DecodeFault
cause_of NoNumber = fault.NoNumber
cause_of (Other n) = fault.Other n
cause_of (Short n) = fault.Short n
cause_of (EpochRange n) = fault.EpochRange n
cause_of (TooManyCells n) = fault.TooManyCells

cause_of-any_fault_of : (f : DecodeFault) → cause_of (any_fault_of f) ≡ f
unfolding cause_of
cause_of-any_fault_of fault.NoNumber = refl
cause_of-any_fault_of (fault.Other n) = refl
cause_of-any_fault_of (fault.Short n) = refl
cause_of-any_fault_of (fault.EpochRange n) = refl
cause_of-any_fault_of fault.TooManyCells = refl

same_fault : (f g : DecodeFault) → any_fault_of f ≡ any_fault_of g → f ≡ g
same_fault f g e = sym (cause_of-any_fault_of f) ∙ ap cause_of e ∙ cause_of-any_fault_of g

pub each_by_four : (bs : List Bool) (r : Result AnyMessage AnyFault) → DecodesBy four bs r → (q : Result declared_message.Message DecodeFault) × (r ≡ any_of q) × decoded.Decodes bs q
each_by_four bs (Ok (Message m)) d =
    let s : decoded.Encodes bs m = record { valid = d.message.valid; begins = d.message.begins } in
    (Ok m, refl, record { message = s; fault = tt; only = λ n t. ap Ok (four_lemmas.one bs m n s t) })
each_by_four bs (Ok (Msm m)) d = absurd (not_wide (form.type_of m) d.message.valid.wide d.accepted)
each_by_four bs (Ok (Obs1012 m)) d = absurd (not-1012 d.accepted)
each_by_four bs (Err f) d =
    let g = some_fault (decoded.first_fault bs) f (sym (first_by_four bs) ∙ d.fault) in
    (Err g.0, ap Err g.2, four_lemmas.decodes_fault bs g.0 g.1)

pub of_four : (bs : List Bool) (r : Result declared_message.Message DecodeFault) → DecodesBy four bs (any_of r) → decoded.Decodes bs r
of_four bs (Ok m) d =
    let s : decoded.Encodes bs m = record { valid = d.message.valid; begins = d.message.begins } in
    record { message = s; fault = tt; only = λ n t. ap Ok (four_lemmas.one bs m n s t) }
of_four bs (Err f) d =
    let g = some_fault (decoded.first_fault bs) (any_fault_of f) (sym (first_by_four bs) ∙ d.fault) in
    let same : f ≡ g.0 = same_fault f g.0 g.2 in
    four_lemmas.decodes_fault bs f (g.1 ∙ ap Some (sym same))

-- ---- times of week

-- the clock of a message of a set without MSM of other systems than GPS lies in a week
pub in_week : (ks : MsmKinds) (m : AnyMessage) → IsValid m → IsTrue (accepts (of_gps ks) (number_of m)) → IfSome (tow_of m) (λ tow. tow < week_ms)
in_week ks (Message (message.Obs1004 m)) valid member = valid.time_in_week
in_week ks (Message (message.Arp1005 m)) valid member = tt
in_week ks (Message (message.Arp1006 m)) valid member = tt
in_week ks (Message (message.Msm1074 m)) valid member = valid.time_in_week
in_week ks (Msm m) valid member =
    let is_gps : m.system ≡ Gps = accepts-gps ks (form.type_of m) member in
    ltb-true m.header.tow week_ms (subst (λ (s : System). tells_time true s m.header.tow ≡ true) is_gps valid.form.time)
in_week ks (Obs1012 m) valid member = absurd (not-1012 member)
