use Rattle.std.proofs.Common.{sym, ◌∙◌}
use Rattle.std.proofs.lemmas.Result.{err_from_is_err_and}
use Rattle.rtk_collect.proofs.LegacyListLemmas.{spelled-none}
use Rattle.rtk_collect.proofs.legacy_list.LegacyList.take_first.Goals as goal

pub returns-in_err-reserve-clause-err : goal.returns-in_err-reserve-clause-err
returns-in_err-reserve-clause-err g c =
    let p = err_from_is_err_and c.from_residual.result c.from_residual.ensures.1 in
    rw p.1 (spelled-none g.E.Entry.legacy _ _ c.clear.ensures.items ∙ c.reserve.ensures.items ∙ c.clear-2.ensures.items ∙ sym c.requires.empty)

pub returns-in_err-extend_from_slice-clause-err : goal.returns-in_err-extend_from_slice-clause-err
returns-in_err-extend_from_slice-clause-err g c =
    let p = err_from_is_err_and c.from_residual-in_err-extend_from_slice.result c.from_residual-in_err-extend_from_slice.ensures.1 in
    rw p.1 (spelled-none g.E.Entry.legacy _ _ (c.in_err-extend_from_slice.ensures.items ∙ c.clear.ensures.items) ∙ c.reserve.ensures.items ∙ c.clear-2.ensures.items ∙ sym c.requires.empty)
