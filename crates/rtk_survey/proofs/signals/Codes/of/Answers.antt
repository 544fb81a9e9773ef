use Rattle.std.proofs.Common.{◌≡◌, ◌++◌, ◌∙◌, [], List, take, subst, arith}
use Rattle.std.proofs.lemmas.Grind.{common_steps}
use Rattle.std.proofs.lemmas.List.{append-nil}
use Rattle.rtk_obs.specs.declared.cell.CellEntry.{CellEntry}
use Rattle.rtk_survey.specs.Contents.{HasCodes}
use Rattle.rtk_survey.proofs.SignalLemmas.{codes-more}
use Rattle.rtk_survey.proofs.signals.Codes.of.Goals as goal

pub loop-entry-preserved : goal.loop-entry-preserved
loop-entry-preserved c =
    let xs = c.args.entries.now in
    codes-more c.mark_code.new.self xs [] c.loop-entry.entry-index _ c.loop-entry-test.true
    (c.mark_code.ensures (take c.loop-entry.entry-index xs ++ []) c.loop-entry.invariant)

pub returns : goal.returns
returns c =
    let xs : List CellEntry = c.args.entries.now in
    let all : take c.loop-entry.entry-index xs ≡ xs = grind (arith, common_steps) in
    subst (λ (ys : List CellEntry). HasCodes c.loop-entry.codes ys) (append-nil (take c.loop-entry.entry-index xs) ∙ all) c.loop-entry.invariant
