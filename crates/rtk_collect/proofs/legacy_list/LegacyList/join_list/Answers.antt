use Rattle.std.proofs.Common.{◌≡◌, ap, ◌∙◌}
use Rattle.std.proofs.lemmas.Result.{IfOk-weaker, on_err_weaker}
use Rattle.rtk_collect.specs.EpochSet.{with_cells}
use Rattle.rtk_collect.proofs.LegacyListLemmas.{spelled-none}
use Rattle.rtk_collect.proofs.legacy_list.LegacyList.join_list.Goals as goal

pub returns-clause-items : goal.returns-clause-items
returns-clause-items g c =
    IfOk-weaker c.join_list.result _ _ (λ n h. spelled-none g.E.Entry.legacy _ _ c.spell_out.ensures.first ∙ h ∙ ap (with_cells g.E.Entry.entries c.args.cells.now) (c.spell_out.ensures.cells ∙ c.self.view_is)) c.join_list.ensures.items

pub returns-clause-err : goal.returns-clause-err
returns-clause-err g c =
    on_err_weaker c.join_list.result (λ (e : c.join_list.new.list.items ≡ c.spell_out.new.cells.items). spelled-none g.E.Entry.legacy _ _ c.spell_out.ensures.first ∙ e ∙ c.spell_out.ensures.cells ∙ c.self.view_is) c.join_list.ensures.err
