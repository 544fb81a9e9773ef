use Rattle.std.proofs.Common.{◌≡◌, take}
use Rattle.rtk_cli.specs.Said.{names_of_links, names_in}
use Rattle.rtk_cli.proofs.auto_saying.names_of_links.Given as goal

abbrev pub invariant-loop-link : goal.invariant-loop-link
invariant-loop-link l = names_in l.named.items ≡ names_of_links (take l.link-index l.links)
