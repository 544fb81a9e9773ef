use Rattle.std.proofs.Common.{◌∙◌}
use Rattle.rtk_collect.proofs.LegacyListLemmas.{spelled-none}
use Rattle.rtk_collect.proofs.legacy_list.LegacyList.new.Goals as goal

pub returns : goal.returns
returns g c = spelled-none g.E.Entry.legacy _ _ c.new.ensures.items ∙ c.new-2.ensures.items
