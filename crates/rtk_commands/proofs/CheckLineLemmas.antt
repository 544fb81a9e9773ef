-- The lines of `check` tell their numbers and causes.
use Rattle.std.proofs.Common.{◌≡◌, ◌==◌, ℕ, List, [], ◌∷◌, ◌++◌, cond, codes, decimal, get_or, refl, sym, ap, ap₂, ◌∙◌, append_assoc, arith}
use Rattle.std.proofs.lemmas.List.{append_cancel_left, append_cancel_right}
use Rattle.rtk_rinex.specs.CauseText.{cause_text}
use Rattle.rtk_rinex.specs.CheckTable.{OneTable, OneFault}
use Rattle.rtk_rinex.specs.MixedCheckTable.{MixedOneTable, MixedOneFault}
use Rattle.rtk_rinex.specs.declared.check_fault.Cause.{Cause}
use Rattle.rtk_rinex.specs.declared.check_fault.Cause.TheVariants.{HeaderLine, Columns, Value, Order, Truncated, OutOfMemory}
use Rattle.rtk_rinex.specs.declared.check_fault.CheckFault.{CheckFault}
use Rattle.rtk_commands.specs.CheckInput.{valid_text, check_fault_text}
use Rattle.rtk_commands.specs.CheckLaws.{ValidTellsNumbers, FaultTextTellsFault, YesTellsNumbers, NoTellsFault, NoLineSaysBoth}
use Rattle.rtk_commands.proofs.FileTableLemmas.{one-count, one-fault-of-file}
use Rattle.rtk_message.proofs.PublicLaws.{number-then}

valid-regrouped : (v e m s w : List ℕ) → v ++ e ++ m ++ s ++ w ++ 10 ∷ [] ≡ v ++ (e ++ (m ++ (s ++ (w ++ 10 ∷ []))))
valid-regrouped v e m s w = simp append_assoc

valid-is : (epochs satellites : ℕ) → valid_text epochs satellites
    ≡ codes "valid: " ++ (decimal epochs ++ (codes " epochs, " ++ (decimal satellites ++ (codes " satellite lines" ++ 10 ∷ []))))
valid-is epochs satellites = valid-regrouped (codes "valid: ") (decimal epochs) (codes " epochs, ") (decimal satellites) (codes " satellite lines")

pub valid-tells : ValidTellsNumbers
valid-tells epochs satellites other_epochs other_satellites e s f t same =
    let first = number-then epochs other_epochs 32 _ _ e f (λ digit. omega (arith, digit))
    (append_cancel_left (codes "valid: ") _ _ (sym (valid-is epochs satellites) ∙ same ∙ valid-is other_epochs other_satellites)) in
    let rest = number-then satellites other_satellites 32 _ _ s t (λ digit. omega (arith, digit)) (append_cancel_left (codes "epochs, ") _ _ first.1) in
    (first.0, rest.0)

-- ---- causes

-- the cause, by the digit of its code
cause_from : ℕ → Cause
cause_from digit =
    cond (digit == 49) HeaderLine (cond (digit == 50) Columns (cond (digit == 51) Value (cond (digit == 52) Order (cond (digit == 53) Truncated OutOfMemory))))

cause-back : (cause : Cause) → cause_from (get_or (cause_text cause) 1 0) ≡ cause
unfolding cause_from
cause-back HeaderLine = refl
cause-back Columns = refl
cause-back Value = refl
cause-back Order = refl
cause-back Truncated = refl
cause-back OutOfMemory = refl

one-cause : (cause other : Cause) → cause_text cause ≡ cause_text other → cause ≡ other
one-cause cause other same =
    sym (cause-back cause) ∙ ap (λ (text : List ℕ). cause_from (get_or text 1 0)) same ∙ cause-back other

fault-regrouped : (l n c t : List ℕ) → l ++ n ++ c ++ t ++ 10 ∷ [] ≡ l ++ (n ++ (c ++ (t ++ 10 ∷ [])))
fault-regrouped l n c t = simp append_assoc

fault-is : (fault : CheckFault) → check_fault_text fault ≡ codes "line " ++ (decimal fault.line ++ (codes ": " ++ (cause_text fault.cause ++ 10 ∷ [])))
fault-is fault = fault-regrouped (codes "line ") (decimal fault.line) (codes ": ") (cause_text fault.cause)

pub fault-tells : FaultTextTellsFault
fault-tells fault other f g same =
    let first = number-then fault.line other.line 58 _ _ f g (λ digit. omega (arith, digit))
    (append_cancel_left (codes "line ") _ _ (sym (fault-is fault) ∙ same ∙ fault-is other)) in
    let cause = one-cause fault.cause other.cause (append_cancel_right (cause_text fault.cause) (cause_text other.cause) (10 ∷ []) (append_cancel_left (codes " ") _ _ first.1)) in
    λ i. record { line = first.0 i; cause = cause i }

-- ---- the answers

pub yes-tells : OneTable → MixedOneTable → YesTellsNumbers
yes-tells one mixed text other line epochs satellites other_epochs other_satellites h k e s f t says said =
    let here = one-count one mixed text epochs satellites says.0 says.1 h says.2 in
    let there = one-count one mixed other other_epochs other_satellites said.0 said.1 k said.2 in
    valid-tells epochs satellites other_epochs other_satellites e s f t
    (ap₂ valid_text here.0 here.1 ∙ sym says.3 ∙ said.3 ∙ sym (ap₂ valid_text there.0 there.1))

pub no-tells : OneFault → MixedOneFault → NoTellsFault
no-tells one mixed text other line fault other_fault is was f g says said =
    let here : fault ≡ says.0 = one-fault-of-file one mixed text fault says.0 is says.1 in
    let there : other_fault ≡ said.0 = one-fault-of-file one mixed other other_fault said.0 was said.1 in
    fault-tells fault other_fault f g (ap check_fault_text here ∙ sym says.3 ∙ said.3 ∙ sym (ap check_fault_text there))

pub both-never : NoLineSaysBoth
both-never text other line says said =
    let same : valid_text says.0 says.1 ≡ check_fault_text said.0 = sym says.3 ∙ said.3 in
    omega (arith, ap (λ (text : List ℕ). get_or text 0 0) same)
