use Rattle.std.proofs.Common.{◌≡◌, ℕ, ◌<◌, ◌++◌, List, [], refl, ap, sym, ◌∙◌, subst, filter}
use Rattle.std.proofs.lemmas.Result.{on_ok_weaker, on_err_weaker}
use Rattle.rtk_obs.specs.declared.cell.CellSource.TheVariants.{Legacy}
use Rattle.rtk_collect.specs.EpochSet.{EpochSetView, AreKeptOf, is_from, with_cells, joined, fresh, conflicts}
use Rattle.rtk_collect.proofs.KindLemmas.{legacy-is, legacy-joins, legacy-fresh, legacy-conflicts}
use Rattle.rtk_collect.proofs.LegacyListLemmas.{either-taken}
use Rattle.rtk_collect.proofs.RisingLemmas.{alone}
use Rattle.rtk_collect.proofs.gathered_set.GatheredSet.take_first.Goals as goal

pub take_first-requires-clause-empty : goal.take_first-requires-clause-empty
take_first-requires-clause-empty g c = legacy-is g.E.Entry.entries g.E.Entry.InRange c.self.inside.msm.items c.self.inside.legacy c.self.invariant.1 c.self.invariant.2 ∙ ap (λ (s : EpochSetView _). filter (is_from g.E.Entry.entries Legacy) s.cells) c.self.view_is ∙ c.requires.none

pub returns-clause-set : goal.returns-clause-set
returns-clause-set g c =
    let cells = g.E.Entry.legacy c.args.satellites.now in
    let msm = c.self.inside.msm.items in
    let legacy = c.self.inside.legacy in
    let m = c.self.invariant.1 in
    let l = c.self.invariant.2 in
    let none : legacy ≡ [] = legacy-is g.E.Entry.entries g.E.Entry.InRange msm legacy m l ∙ ap (λ (s : EpochSetView _). filter (is_from g.E.Entry.entries Legacy) s.cells) c.self.view_is ∙ c.requires.none in
    let one : cells ≡ with_cells g.E.Entry.entries cells legacy = ap (λ (t : List _). t ++ cells) (sym none) ∙ (alone g.E.Entry.entries cells legacy none c.requires.first.kept.rises).items in
    on_ok_weaker c.take_first.result (λ (h : c.take_first.new.self ≡ cells). subst (λ (s : EpochSetView _). record { epoch = c.self.inside.epoch; cells = with_cells g.E.Entry.entries c.take_first.new.self msm } ≡ joined g.E.Entry.entries cells s) c.self.view_is
    (ap (λ (t : List _). record { epoch = c.self.inside.epoch; cells = t }) (ap (λ (t : List _). with_cells g.E.Entry.entries t msm) (h ∙ one) ∙ legacy-joins g.E.Entry.entries g.E.Entry.InRange msm legacy m l cells))) c.take_first.ensures.ok

pub returns-clause-fresh : goal.returns-clause-fresh
returns-clause-fresh g c =
    let cells = g.E.Entry.legacy c.args.satellites.now in
    let msm = c.self.inside.msm.items in
    let legacy = c.self.inside.legacy in
    let m = c.self.invariant.1 in
    let l = c.self.invariant.2 in
    let none : legacy ≡ [] = legacy-is g.E.Entry.entries g.E.Entry.InRange msm legacy m l ∙ ap (λ (s : EpochSetView _). filter (is_from g.E.Entry.entries Legacy) s.cells) c.self.view_is ∙ c.requires.none in
    subst (λ (s : EpochSetView _). 0 < fresh g.E.Entry.entries cells s.cells) c.self.view_is (subst (λ (t : ℕ). 0 < t) ((alone g.E.Entry.entries cells legacy none c.requires.first.kept.rises).fresh ∙ legacy-fresh g.E.Entry.entries g.E.Entry.InRange msm legacy m l cells c.requires.first.kept.kind) c.requires.first.some)

pub returns-clause-conflicts : goal.returns-clause-conflicts
returns-clause-conflicts g c =
    let cells = g.E.Entry.legacy c.args.satellites.now in
    let msm = c.self.inside.msm.items in
    let legacy = c.self.inside.legacy in
    let m = c.self.invariant.1 in
    let l = c.self.invariant.2 in
    let none : legacy ≡ [] = legacy-is g.E.Entry.entries g.E.Entry.InRange msm legacy m l ∙ ap (λ (s : EpochSetView _). filter (is_from g.E.Entry.entries Legacy) s.cells) c.self.view_is ∙ c.requires.none in
    sym ((alone g.E.Entry.entries cells legacy none c.requires.first.kept.rises).conflicts ∙ legacy-conflicts g.E.Entry.entries g.E.Entry.InRange msm legacy m l cells c.requires.first.kept.kind ∙ ap (λ (s : EpochSetView _). conflicts g.E.Entry.entries cells s.cells) c.self.view_is)

pub returns-clause-err : goal.returns-clause-err
returns-clause-err g c =
    on_err_weaker c.take_first.result (λ (e : c.take_first.new.self ≡ c.self.inside.legacy). ap (λ (t : List _). record { epoch = c.self.inside.epoch; cells = with_cells g.E.Entry.entries t c.self.inside.msm.items }) e ∙ c.self.view_is) c.take_first.ensures.err

pub invariant_of-self : goal.invariant_of-self
invariant_of-self g c = (
  refl,
  c.self.invariant.1,
  either-taken c.take_first.result (AreKeptOf g.E.Entry.entries g.E.Entry.InRange Legacy) c.take_first.new.self (g.E.Entry.legacy c.args.satellites.now) c.self.inside.legacy c.take_first.ensures.ok c.take_first.ensures.err c.requires.first.kept c.self.invariant.2,
)
