use Rattle.std.proofs.Common.{◌≡◌, ℕ, ◌<◌, List, refl, ap, ◌∙◌, subst}
use Rattle.std.proofs.lemmas.Result.{IfOk-weaker, on_err_weaker}
use Rattle.rtk_obs.specs.declared.cell.CellSource.TheVariants.{Legacy, Msm}
use Rattle.rtk_collect.specs.EpochSet.{EpochSetView, AreKeptOf, with_cells, joined, fresh, conflicts}
use Rattle.rtk_collect.proofs.KindLemmas.{either-list, kept-with, msm-joins, msm-fresh, msm-conflicts, legacy-joins, legacy-fresh, legacy-conflicts}
use Rattle.rtk_collect.proofs.gathered_set.GatheredSet.join.Goals as goal

-- the list of the cells of a 1074

pub returns-in-Msm-clause-set : goal.returns-in-Msm-clause-set
returns-in-Msm-clause-set g c =
    let cells = c.args.cells.now in
    let msm = c.self.inside.msm.items in
    let legacy = c.self.inside.legacy in
    let m = c.self.invariant.1 in
    let l = c.self.invariant.2 in
    let k = c.in-Msm.ensures in
    IfOk-weaker c.join_list.result (λ n. c.join_list.new.list.items ≡ with_cells g.E.Entry.entries cells msm) (λ n. record { epoch = c.self.inside.epoch; cells = with_cells g.E.Entry.entries legacy c.join_list.new.list.items } ≡ joined g.E.Entry.entries cells c.args.self.now)
    (λ n h. subst (λ (s : EpochSetView _). record { epoch = c.self.inside.epoch; cells = with_cells g.E.Entry.entries legacy c.join_list.new.list.items } ≡ joined g.E.Entry.entries cells s) c.self.view_is
    (ap (λ (t : List _). record { epoch = c.self.inside.epoch; cells = t }) (ap (with_cells g.E.Entry.entries legacy) h ∙ msm-joins g.E.Entry.entries g.E.Entry.InRange msm legacy m l cells k))) c.join_list.ensures.items

pub returns-in-Msm-clause-fresh : goal.returns-in-Msm-clause-fresh
returns-in-Msm-clause-fresh g c =
    let cells = c.args.cells.now in
    let msm = c.self.inside.msm.items in
    let legacy = c.self.inside.legacy in
    let m = c.self.invariant.1 in
    let l = c.self.invariant.2 in
    let k = c.in-Msm.ensures in
    IfOk-weaker c.join_list.result (λ n. n ≡ fresh g.E.Entry.entries cells msm) (λ n. n ≡ fresh g.E.Entry.entries cells c.args.self.now.cells)
    (λ n h. h ∙ msm-fresh g.E.Entry.entries g.E.Entry.InRange msm legacy m l cells k ∙ ap (λ (s : EpochSetView _). fresh g.E.Entry.entries cells s.cells) c.self.view_is) c.join_list.ensures.fresh

pub returns-in-Msm-clause-conflicts : goal.returns-in-Msm-clause-conflicts
returns-in-Msm-clause-conflicts g c =
    let cells = c.args.cells.now in
    let msm = c.self.inside.msm.items in
    let legacy = c.self.inside.legacy in
    let m = c.self.invariant.1 in
    let l = c.self.invariant.2 in
    let k = c.in-Msm.ensures in
    IfOk-weaker c.join_list.result (λ n. c.join_list.new.found ≡ conflicts g.E.Entry.entries cells msm) (λ n. c.join_list.new.found ≡ conflicts g.E.Entry.entries cells c.args.self.now.cells)
    (λ n h. h ∙ msm-conflicts g.E.Entry.entries g.E.Entry.InRange msm legacy m l cells k ∙ ap (λ (s : EpochSetView _). conflicts g.E.Entry.entries cells s.cells) c.self.view_is) c.join_list.ensures.conflicts

pub returns-in-Msm-clause-err : goal.returns-in-Msm-clause-err
returns-in-Msm-clause-err g c =
    let cells = c.args.cells.now in
    let msm = c.self.inside.msm.items in
    let legacy = c.self.inside.legacy in
    let m = c.self.invariant.1 in
    let l = c.self.invariant.2 in
    let k = c.in-Msm.ensures in
    on_err_weaker c.join_list.result (λ (e : c.join_list.new.list.items ≡ msm). ap (λ (t : List _). record { epoch = c.self.inside.epoch; cells = with_cells g.E.Entry.entries legacy t }) e ∙ c.self.view_is) c.join_list.ensures.err

pub returns-in-Msm-clause-refused : goal.returns-in-Msm-clause-refused
returns-in-Msm-clause-refused g c =
    let cells = c.args.cells.now in
    let msm = c.self.inside.msm.items in
    let legacy = c.self.inside.legacy in
    let m = c.self.invariant.1 in
    let l = c.self.invariant.2 in
    let k = c.in-Msm.ensures in
    on_err_weaker c.join_list.result (λ (e : 0 < fresh g.E.Entry.entries cells msm). subst (λ (s : EpochSetView _). 0 < fresh g.E.Entry.entries cells s.cells) c.self.view_is (subst (λ (t : ℕ). 0 < t) (msm-fresh g.E.Entry.entries g.E.Entry.InRange msm legacy m l cells k) e)) c.join_list.ensures.refused

pub invariant_of-self : goal.invariant_of-self
invariant_of-self g c = (
  refl,
  either-list c.join_list.result (AreKeptOf g.E.Entry.entries g.E.Entry.InRange Msm) c.join_list.new.list.items (with_cells g.E.Entry.entries c.args.cells.now c.self.inside.msm.items) c.self.inside.msm.items c.join_list.ensures.items c.join_list.ensures.err (kept-with g.E.Entry.entries g.E.Entry.InRange Msm c.args.cells.now c.self.inside.msm.items c.self.invariant.1 c.requires.range c.in-Msm.ensures) c.self.invariant.1,
  c.self.invariant.2,
)

-- the list of the cells of a 1004

pub returns-in-Legacy-clause-set : goal.returns-in-Legacy-clause-set
returns-in-Legacy-clause-set g c =
    let cells = c.args.cells.now in
    let msm = c.self.inside.msm.items in
    let legacy = c.self.inside.legacy in
    let m = c.self.invariant.1 in
    let l = c.self.invariant.2 in
    let k = c.in-Legacy.ensures in
    IfOk-weaker c.join_list-in-Legacy.result (λ n. c.join_list-in-Legacy.new.self ≡ with_cells g.E.Entry.entries cells legacy) (λ n. record { epoch = c.self.inside.epoch; cells = with_cells g.E.Entry.entries c.join_list-in-Legacy.new.self msm } ≡ joined g.E.Entry.entries cells c.args.self.now)
    (λ n h. subst (λ (s : EpochSetView _). record { epoch = c.self.inside.epoch; cells = with_cells g.E.Entry.entries c.join_list-in-Legacy.new.self msm } ≡ joined g.E.Entry.entries cells s) c.self.view_is
    (ap (λ (t : List _). record { epoch = c.self.inside.epoch; cells = t }) (ap (λ (t : List _). with_cells g.E.Entry.entries t msm) h ∙ legacy-joins g.E.Entry.entries g.E.Entry.InRange msm legacy m l cells))) c.join_list-in-Legacy.ensures.items

pub returns-in-Legacy-clause-fresh : goal.returns-in-Legacy-clause-fresh
returns-in-Legacy-clause-fresh g c =
    let cells = c.args.cells.now in
    let msm = c.self.inside.msm.items in
    let legacy = c.self.inside.legacy in
    let m = c.self.invariant.1 in
    let l = c.self.invariant.2 in
    let k = c.in-Legacy.ensures in
    IfOk-weaker c.join_list-in-Legacy.result (λ n. n ≡ fresh g.E.Entry.entries cells legacy) (λ n. n ≡ fresh g.E.Entry.entries cells c.args.self.now.cells)
    (λ n h. h ∙ legacy-fresh g.E.Entry.entries g.E.Entry.InRange msm legacy m l cells k ∙ ap (λ (s : EpochSetView _). fresh g.E.Entry.entries cells s.cells) c.self.view_is) c.join_list-in-Legacy.ensures.fresh

pub returns-in-Legacy-clause-conflicts : goal.returns-in-Legacy-clause-conflicts
returns-in-Legacy-clause-conflicts g c =
    let cells = c.args.cells.now in
    let msm = c.self.inside.msm.items in
    let legacy = c.self.inside.legacy in
    let m = c.self.invariant.1 in
    let l = c.self.invariant.2 in
    let k = c.in-Legacy.ensures in
    IfOk-weaker c.join_list-in-Legacy.result (λ n. c.join_list-in-Legacy.new.found ≡ conflicts g.E.Entry.entries cells legacy) (λ n. c.join_list-in-Legacy.new.found ≡ conflicts g.E.Entry.entries cells c.args.self.now.cells)
    (λ n h. h ∙ legacy-conflicts g.E.Entry.entries g.E.Entry.InRange msm legacy m l cells k ∙ ap (λ (s : EpochSetView _). conflicts g.E.Entry.entries cells s.cells) c.self.view_is) c.join_list-in-Legacy.ensures.conflicts

pub returns-in-Legacy-clause-err : goal.returns-in-Legacy-clause-err
returns-in-Legacy-clause-err g c =
    let cells = c.args.cells.now in
    let msm = c.self.inside.msm.items in
    let legacy = c.self.inside.legacy in
    let m = c.self.invariant.1 in
    let l = c.self.invariant.2 in
    let k = c.in-Legacy.ensures in
    on_err_weaker c.join_list-in-Legacy.result (λ (e : c.join_list-in-Legacy.new.self ≡ legacy). ap (λ (t : List _). record { epoch = c.self.inside.epoch; cells = with_cells g.E.Entry.entries t msm }) e ∙ c.self.view_is) c.join_list-in-Legacy.ensures.err

pub returns-in-Legacy-clause-refused : goal.returns-in-Legacy-clause-refused
returns-in-Legacy-clause-refused g c =
    let cells = c.args.cells.now in
    let msm = c.self.inside.msm.items in
    let legacy = c.self.inside.legacy in
    let m = c.self.invariant.1 in
    let l = c.self.invariant.2 in
    let k = c.in-Legacy.ensures in
    on_err_weaker c.join_list-in-Legacy.result (λ (e : 0 < fresh g.E.Entry.entries cells legacy). subst (λ (s : EpochSetView _). 0 < fresh g.E.Entry.entries cells s.cells) c.self.view_is (subst (λ (t : ℕ). 0 < t) (legacy-fresh g.E.Entry.entries g.E.Entry.InRange msm legacy m l cells k) e)) c.join_list-in-Legacy.ensures.refused

pub invariant_of-self-in-Legacy : goal.invariant_of-self-in-Legacy
invariant_of-self-in-Legacy g c = (
  refl,
  c.self.invariant.1,
  either-list c.join_list-in-Legacy.result (AreKeptOf g.E.Entry.entries g.E.Entry.InRange Legacy) c.join_list-in-Legacy.new.self (with_cells g.E.Entry.entries c.args.cells.now c.self.inside.legacy) c.self.inside.legacy c.join_list-in-Legacy.ensures.items c.join_list-in-Legacy.ensures.err (kept-with g.E.Entry.entries g.E.Entry.InRange Legacy c.args.cells.now c.self.inside.legacy c.self.invariant.2 c.requires.range c.in-Legacy.ensures) c.self.invariant.2,
)
