use Rattle.rtk_rinex.proofs.EqualityLemmas.{cause_same, fault_same, head_same, mixed_head_same}
use Rattle.rtk_rinex.proofs.laws.fault_laws.Goals as goal

pub returns : goal.returns
returns c = record { causes = cause_same; faults = fault_same; heads = head_same; mixed_heads = mixed_head_same }
