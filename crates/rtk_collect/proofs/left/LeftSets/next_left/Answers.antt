use Rattle.std.proofs.Common.{refl, subst}
use Rattle.std.specs.Prelude.{IfSome}
use Rattle.rtk_collect.specs.Collector.{LeftView}
use Rattle.rtk_collect.specs.Offered.{NotBelow}
use Rattle.rtk_collect.proofs.LeftLemmas.{falls-left, least-left, not-below-left}
use Rattle.rtk_collect.proofs.left.LeftSets.next_left.Goals as goal

pub invariant_of-self : goal.invariant_of-self
invariant_of-self g c = (
  refl,
  record {
    falls = falls-left g.S.KeptSet.epoch_set c.self.inside.sets.items c.take_last.new.sets.items c.take_last.result c.take_last.ensures.order c.self.invariant.1.falls;
    fits_1005 = c.self.invariant.1.fits_1005;
    fits_1006 = c.self.invariant.1.fits_1006;
  },
  refl,
)

pub returns-clause-not_below : goal.returns-clause-not_below
returns-clause-not_below g c =
    subst (λ (r : LeftView _). IfSome c.take_last.result (λ s. NotBelow (g.S.KeptSet.epoch_set s) r.sets)) c.self.view_is
    (not-below-left g.S.KeptSet.epoch_set c.self.inside.sets.items c.take_last.new.sets.items c.take_last.result c.take_last.ensures.order)

pub returns-clause-least : goal.returns-clause-least
returns-clause-least g c = least-left g.S.KeptSet.epoch_set c.self.inside.sets.items c.take_last.new.sets.items c.take_last.result c.take_last.ensures.order c.self.invariant.1.falls
