-- `==` says whether two faults, or two causes, are the same.
use Rattle.std.proofs.Common.{rules, ◌≡◌, ap}
use Rattle.std.specs.Bool.{Decides}
use Rattle.std.specs.Cmp.{unsigned_Decides}
use Rattle.std.proofs.lemmas.Bool.Decides.{Decides-and, Decides-like}
use denote.Enum.Bare.{same_true, true_same}
use Rattle.rtk_rinex.specs.declared.check_fault.Cause.{Cause}
use Rattle.rtk_rinex.specs.declared.check_fault.CheckFault.{CheckFault}
use Rattle.rtk_rinex.specs.declared.head_fault.HeadFault.{HeadFault}
use Rattle.rtk_rinex.specs.declared.mixed_head_fault.MixedHeadFault.{MixedHeadFault}
use Rattle.rtk_rinex.specs.contracts.check_fault.Cause as cause_type
use Rattle.rtk_rinex.specs.contracts.head_fault.HeadFault as head_type
use Rattle.rtk_rinex.specs.contracts.mixed_head_fault.MixedHeadFault as mixed_head_type
use Rattle.rtk_rinex.specs.contracts.check_fault.CausePartialEq.TheImpl as cause_eq
use Rattle.rtk_rinex.specs.contracts.check_fault.CheckFaultPartialEq.TheImpl as fault_eq
use Rattle.rtk_rinex.specs.contracts.head_fault.HeadFaultPartialEq.TheImpl as head_eq
use Rattle.rtk_rinex.specs.contracts.mixed_head_fault.MixedHeadFaultPartialEq.TheImpl as mixed_head_eq

pub cause_same : (a b : Cause) → Decides ((cause_eq.ghosts).eq a b) (a ≡ b)
cause_same a b = (λ h. same_true cause_type.the_type (search rules) a b h, λ e. true_same cause_type.the_type a b e)

pub head_same : (a b : HeadFault) → Decides ((head_eq.ghosts).eq a b) (a ≡ b)
head_same a b = (λ h. same_true head_type.the_type (search rules) a b h, λ e. true_same head_type.the_type a b e)

pub mixed_head_same : (a b : MixedHeadFault) → Decides ((mixed_head_eq.ghosts).eq a b) (a ≡ b)
mixed_head_same a b = (λ h. same_true mixed_head_type.the_type (search rules) a b h, λ e. true_same mixed_head_type.the_type a b e)

pub fault_same : (a b : CheckFault) → Decides ((fault_eq.ghosts).eq a b) (a ≡ b)
fault_same a b = Decides-like ((fault_eq.ghosts).eq a b)
    (λ h i. record { line = h.0 i; cause = h.1 i })
    (λ e. (ap (λ (x : CheckFault). x.line) e, ap (λ (x : CheckFault). x.cause) e))
    (Decides-and _ _ (unsigned_Decides a.line b.line) (cause_same a.cause b.cause))
