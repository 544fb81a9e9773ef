use Rattle.std.proofs.Common.{◌≤◌, ap, subst, ◌∙◌, length, filter, All}
use Rattle.rtk_obs.specs.declared.cell.CellSource.TheVariants.{Msm}
use Rattle.rtk_collect.specs.Key.{KeysRise}
use Rattle.rtk_collect.specs.EpochSet.{EpochSetView, is_from}
use Rattle.rtk_collect.proofs.KindLemmas.{both-rise, both-in-range, msm-is}
use Rattle.rtk_collect.proofs.gathered_set.GatheredSet.msm_cells.Goals as goal

pub returns-clause-value : goal.returns-clause-value
returns-clause-value g c =
    c.deref.ensures.value ∙ msm-is g.E.Entry.entries g.E.Entry.InRange c.self.inside.msm.items c.self.inside.legacy c.self.invariant.1 c.self.invariant.2
    ∙ ap (λ (s : EpochSetView _). filter (is_from g.E.Entry.entries Msm) s.cells) c.self.view_is

pub returns-clause-rises : goal.returns-clause-rises
returns-clause-rises g c = rw c.deref.ensures.value c.self.invariant.1.rises

pub returns-clause-range : goal.returns-clause-range
returns-clause-range g c = rw c.deref.ensures.value c.self.invariant.1.range

pub returns-clause-kind : goal.returns-clause-kind
returns-clause-kind g c = (Msm, rw c.deref.ensures.value c.self.invariant.1.kind)

pub returns-clause-all_rise : goal.returns-clause-all_rise
returns-clause-all_rise g c = subst (λ (s : EpochSetView _). KeysRise g.E.Entry.entries s.cells) c.self.view_is (both-rise g.E.Entry.entries g.E.Entry.InRange c.self.inside.msm.items c.self.inside.legacy c.self.invariant.1 c.self.invariant.2)

pub returns-clause-all_in_range : goal.returns-clause-all_in_range
returns-clause-all_in_range g c = subst (λ (s : EpochSetView _). All g.E.Entry.InRange s.cells) c.self.view_is (both-in-range g.E.Entry.entries g.E.Entry.InRange c.self.inside.msm.items c.self.inside.legacy c.self.invariant.1 c.self.invariant.2)

pub returns-clause-few : goal.returns-clause-few
returns-clause-few g c =
    let msm = c.self.inside.msm.items in
    let legacy = c.self.inside.legacy in
    subst (λ (s : EpochSetView _). length s.cells ≤ g.E.Entry.most) c.self.view_is
    (c.entries_are_few.ensures _ (both-rise g.E.Entry.entries g.E.Entry.InRange msm legacy c.self.invariant.1 c.self.invariant.2) (both-in-range g.E.Entry.entries g.E.Entry.InRange msm legacy c.self.invariant.1 c.self.invariant.2))
