use Rattle.std.proofs.Common.{None, refl, sym, subst, Option, ◌-◌}
use Rattle.std.specs.Prelude.{ℤ, IfSome}
use Rattle.rtk_obs.specs.Carriers.{IsChannel}
use Rattle.rtk_obs.proofs.TracksLemmas.{get_or-replicate}
use Rattle.rtk_obs.proofs.carrier.Channels.new.Goals as goal

pub invariant_of-result : goal.invariant_of-result
invariant_of-result c = record {
  count = refl;
  each = λ k. subst (λ (o : Option ℤ). IfSome o IsChannel) (sym (get_or-replicate 27 k None)) tt;
}

pub returns : goal.returns
returns c = λ slot. get_or-replicate 27 (slot - 1) None
