use Rattle.std.proofs.Common.{ℕ, List}
use Rattle.std.proofs.lemmas.Result.{IfOk-at_ok}
use Rattle.rtk_commands.specs.CutInput.{CountsPartOfFile}
use Rattle.rtk_commands.proofs.KeptPartLemmas.{plain-all, plain-first}
use Rattle.rtk_commands.proofs.ResultLemmas.{if-done, if-failed}
use Rattle.rtk_commands.proofs.kept_part.cut_plain.Goals as goal

pub unreachable-requires : goal.unreachable-requires
unreachable-requires g c =
    let some = c.requires.some in
    c.in_default.ensures.none some.0 some.1 some.2

pub returns-in-Ok-done-clause-all : goal.returns-in-Ok-done-clause-all
returns-in-Ok-done-clause-all g c =
    plain-all c.args.part c.args.plain.now c.args.times c.args.label _ _ _ c.requires.some
    (rw c.in-Ok.ensures.text at (if-done c.cut_labelled-out.result.1 c.in-Ok-done.is c.cut_labelled-out.ensures.all))
    (rw c.in-Ok.ensures.text at (IfOk-at_ok (CountsPartOfFile _ c.args.part) c.in-Ok-done.is c.cut_labelled-out.ensures.counts))

pub returns-in-Err-clause-first : goal.returns-in-Err-clause-first
returns-in-Err-clause-first g c =
    plain-first c.args.part c.args.plain.now c.args.times c.args.label _ _ c.requires.some
    (rw c.in-Ok.ensures.text at (if-failed c.cut_labelled-out.result.1 c.in-Err.is c.cut_labelled-out.ensures.first))
