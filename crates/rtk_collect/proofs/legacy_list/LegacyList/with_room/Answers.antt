use Rattle.std.proofs.Common.{◌∙◌}
use Rattle.rtk_collect.proofs.LegacyListLemmas.{spelled-none}
use Rattle.rtk_collect.proofs.legacy_list.LegacyList.with_room.Goals as goal

pub returns : goal.returns
returns g c = spelled-none g.E.Entry.legacy _ _ (c.reserve_exact.ensures.items ∙ c.if_of_room-first.ensures) ∙ c.reserve.ensures.items ∙ c.if_of_room-cells.ensures
