use Rattle.std.proofs.Common.{length}
use Rattle.rtk_cli.proofs.KindLemmas.{ReadsExceptions}
use Rattle.rtk_cli.proofs.kind_list.with_exceptions.Given as goal

abbrev pub invariant-loop-exception : goal.invariant-loop-exception
invariant-loop-exception l = ReadsExceptions l.fn.kinds l.fn.text l.changed l.rest

abbrev pub decreases-loop-exception : goal.decreases-loop-exception
decreases-loop-exception l = length l.rest
