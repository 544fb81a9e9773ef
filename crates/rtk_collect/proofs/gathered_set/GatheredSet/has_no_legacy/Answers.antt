use Rattle.std.proofs.Common.{ap, sym, ◌∙◌, filter}
use Rattle.rtk_obs.specs.declared.cell.CellSource.TheVariants.{Legacy}
use Rattle.rtk_collect.specs.EpochSet.{EpochSetView, is_from}
use Rattle.rtk_collect.proofs.KindLemmas.{legacy-is}
use Rattle.rtk_collect.proofs.gathered_set.GatheredSet.has_no_legacy.Goals as goal

pub returns : goal.returns
returns g c = λ none.
    sym (legacy-is g.E.Entry.entries g.E.Entry.InRange c.self.inside.msm.items c.self.inside.legacy c.self.invariant.1 c.self.invariant.2 ∙ ap (λ (s : EpochSetView _). filter (is_from g.E.Entry.entries Legacy) s.cells) c.self.view_is) ∙ c.is_empty.ensures none
