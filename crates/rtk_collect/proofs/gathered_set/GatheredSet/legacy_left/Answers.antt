use Rattle.std.proofs.Common.{rules, List, ap, subst, ◌∙◌, filter}
use Rattle.rtk_obs.specs.declared.cell.CellSource.TheVariants.{Legacy, Msm}
use Rattle.rtk_collect.specs.EpochSet.{EpochSetView, is_from, AreLeftBeside}
use Rattle.rtk_collect.proofs.KindLemmas.{msm-is, legacy-is}
use Rattle.rtk_collect.proofs.LegacyListLemmas.{kept-left}
use Rattle.rtk_collect.proofs.gathered_set.GatheredSet.legacy_left.Goals as goal

pub left-requires : goal.left-requires
left-requires g c = (search rules, rw c.deref.ensures.value c.self.invariant.1.range)

pub returns-clause-left : goal.returns-clause-left
returns-clause-left g c =
    let msm = c.self.inside.msm.items in
    let legacy = c.self.inside.legacy in
    let m = c.self.invariant.1 in
    let l = c.self.invariant.2 in
    subst (λ (xs : List _). AreLeftBeside g.E.Entry.entries xs (filter (is_from g.E.Entry.entries Legacy) c.args.self.now.cells) c.left.result.now)
    (c.deref.ensures.value ∙ msm-is g.E.Entry.entries g.E.Entry.InRange msm legacy m l ∙ ap (λ (s : EpochSetView _). filter (is_from g.E.Entry.entries Msm) s.cells) c.self.view_is)
    (subst (λ (xs : List _). AreLeftBeside g.E.Entry.entries c.deref.result.now xs c.left.result.now) (legacy-is g.E.Entry.entries g.E.Entry.InRange msm legacy m l ∙ ap (λ (s : EpochSetView _). filter (is_from g.E.Entry.entries Legacy) s.cells) c.self.view_is) c.left.ensures)

pub returns-clause-rises : goal.returns-clause-rises
returns-clause-rises g c = (kept-left g.E.Entry.entries g.E.Entry.InRange Legacy c.deref.result.now c.self.inside.legacy c.left.result.now c.self.invariant.2 c.left.ensures).rises

pub returns-clause-range : goal.returns-clause-range
returns-clause-range g c = (kept-left g.E.Entry.entries g.E.Entry.InRange Legacy c.deref.result.now c.self.inside.legacy c.left.result.now c.self.invariant.2 c.left.ensures).range

pub returns-clause-kind : goal.returns-clause-kind
returns-clause-kind g c = (Legacy, (kept-left g.E.Entry.entries g.E.Entry.InRange Legacy c.deref.result.now c.self.inside.legacy c.left.result.now c.self.invariant.2 c.left.ensures).kind)
