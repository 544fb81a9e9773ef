use Rattle.std.proofs.Common.{take}
use Rattle.rtk_cli.specs.Said.{ReadsPlanned}
use Rattle.rtk_cli.proofs.auto_rereading.captures_of_links.Given as goal

abbrev pub invariant-loop-link : goal.invariant-loop-link
invariant-loop-link l = ReadsPlanned l.names (take l.link-index l.links) l.all.items
