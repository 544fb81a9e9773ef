use Rattle.std.proofs.Common.{◌<◌, length}
use Rattle.std.specs.Prelude.{IfSome}
use Rattle.rtk_convert.specs.Converter.{RepresentsHistory}
use Rattle.rtk_convert.specs.History.{History}
use Rattle.rtk_convert.proofs.NextLemmas.{NextBelow}
use Rattle.rtk_convert.proofs.runs.next_link.Given as goal

abbrev pub invariant-loop-link : goal.invariant-loop-link
invariant-loop-link l = record {
  next : (h : History) → RepresentsHistory l.converter h → NextBelow h l.link l.next;
  within : IfSome l.next (λ link. link < length l.converter.links);
}
