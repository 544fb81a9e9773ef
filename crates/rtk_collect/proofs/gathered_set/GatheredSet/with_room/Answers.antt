use Rattle.std.proofs.Common.{List, refl, sym, ap, ◌∙◌, subst}
use Rattle.rtk_obs.specs.declared.cell.CellSource.TheVariants.{Legacy, Msm}
use Rattle.rtk_collect.specs.EpochSet.{AreKeptOf, with_cells}
use Rattle.rtk_collect.proofs.KindLemmas.{kept-none}
use Rattle.rtk_collect.proofs.gathered_set.GatheredSet.with_room.Goals as goal

pub invariant_of-result : goal.invariant_of-result
invariant_of-result g c = (
  refl,
  subst (AreKeptOf g.E.Entry.entries g.E.Entry.InRange Msm) (sym (c.reserve.ensures.items ∙ c.if_of_room-msm.ensures)) (kept-none g.E.Entry.entries g.E.Entry.InRange Msm),
  subst (AreKeptOf g.E.Entry.entries g.E.Entry.InRange Legacy) (sym c.in_ok-legacy.ensures) (kept-none g.E.Entry.entries g.E.Entry.InRange Legacy),
)

pub returns-clause-set : goal.returns-clause-set
returns-clause-set g c =
    ap (λ (xs : List _). record { epoch = c.args.epoch; cells = with_cells g.E.Entry.entries xs c.reserve.new.self.items }) c.in_ok-legacy.ensures
    ∙ ap (λ (xs : List _). record { epoch = c.args.epoch; cells = xs }) (c.reserve.ensures.items ∙ c.if_of_room-msm.ensures)
