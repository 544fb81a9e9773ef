use Rattle.std.proofs.Common.{◌≡◌, ◌++◌, map}
use Rattle.std.specs.Io.Buffered.{reader_remaining}
use Rattle.std.specs.Vec.Iter.{into_iter_items}
use Rattle.rtk_commands.specs.Joined.{joined_remaining}
use Rattle.rtk_cli.specs.JoinedLinks.{links_bytes}
use Rattle.rtk_cli.proofs.auto_converting.joined_links.Given as goal

-- the links so far have the bytes of their parts
abbrev pub invariant-loop-parts : goal.invariant-loop-parts
invariant-loop-parts g l = record {
  made : map (reader_remaining (λ link. joined_remaining g.R.Read.remaining link.inner)) l.readers.items ≡ links_bytes g.R.Read.remaining l.yielded;
  split : l.fn.links.items ≡ l.yielded ++ into_iter_items l.parts-iterator;
}
