use Rattle.std.proofs.Common.{rules}
use Rattle.rtk_convert.proofs.SystemLemmas.{index-first, index-none}
use Rattle.rtk_convert.proofs.file_entry.index_or_first.Goals as goal

pub returns-in-Some : goal.returns-in-Some
returns-in-Some c = search (rules, index-first) depth 5 fits 300

pub returns-in-None : goal.returns-in-None
returns-in-None c = search (rules, index-none) depth 5 fits 300
