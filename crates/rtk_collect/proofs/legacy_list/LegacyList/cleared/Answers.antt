use Rattle.std.proofs.Common.{◌∙◌}
use Rattle.rtk_collect.proofs.LegacyListLemmas.{spelled-none}
use Rattle.rtk_collect.proofs.legacy_list.LegacyList.cleared.Goals as goal

pub returns : goal.returns
returns g c = spelled-none g.E.Entry.legacy _ _ c.clear.ensures.items ∙ c.clear-2.ensures.items
