use Rattle.std.proofs.Common.{◌≤◌, ◌++◌, List, length, map, sym, subst, arith}
use Rattle.std.proofs.lemmas.List.{append-nil, take_all}
use Rattle.rtk_quality.specs.Largest.{AreLargest}
use Rattle.rtk_quality.specs.Missing.{missing_code, size_of_missing}
use Rattle.rtk_quality.specs.declared.missing.MissingCode.{MissingCode}
use Rattle.rtk_quality.specs.declared.runs.Run.{Run}
use Rattle.rtk_quality.proofs.MissingCodeLemmas.{thing-more}
use Rattle.rtk_quality.proofs.missing.note_ended.Goals as goal

pub loop-run-init : goal.loop-run-init
loop-run-init c = λ all are. subst (λ (ms : List MissingCode). AreLargest size_of_missing c.args.missing.now ms) (sym (append-nil all)) are

pub loop-run-preserved : goal.loop-run-preserved
loop-run-preserved c = λ all are.
    thing-more size_of_missing (missing_code c.args.satellite c.args.code) c.args.ended.now c.loop-run.run-index _ c.loop-run.missing _ all
    c.loop-run-test.true (c.loop-run.invariant all are) c.in_ok-note.ensures

pub returns : goal.returns
returns c = λ all are.
    let end : length c.args.ended.now ≤ c.loop-run.run-index = omega (arith, c.loop-run-test.false) in
    subst (λ (rs : List Run). AreLargest size_of_missing c.loop-run.missing (all ++ map (missing_code c.args.satellite c.args.code) rs))
    (take_all c.loop-run.run-index c.args.ended.now end) (c.loop-run.invariant all are)
