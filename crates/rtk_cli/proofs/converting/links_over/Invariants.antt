use Rattle.std.proofs.Common.{◌≡◌, ◌++◌, length}
use Rattle.std.specs.Vec.Iter.{into_iter_items}
use Rattle.rtk_cli.specs.Steps.Links.{AreLinksOf}
use Rattle.rtk_cli.proofs.converting.links_over.Given as goal

abbrev pub invariant-loop-reader : goal.invariant-loop-reader
invariant-loop-reader g l = record {
  made : AreLinksOf l.sources.items l.yielded (λ link. link.number) (λ link. link.inner);
  split : l.fn.readers.items ≡ l.yielded ++ into_iter_items l.reader-iterator;
  number : l.number ≡ length l.yielded;
  as_many : length l.sources.items ≡ length l.yielded;
}
