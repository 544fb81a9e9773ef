use Rattle.std.proofs.Common.{◌≡◌, ◌++◌, List, take, subst, arith}
use Rattle.std.proofs.lemmas.Grind.{common_steps}
use Rattle.rtk_obs.specs.declared.cell.CellEntry.{CellEntry}
use Rattle.rtk_survey.specs.Phases.{CountsPlaces}
use Rattle.rtk_survey.proofs.PhaseLemmas.{table-moved}
use Rattle.rtk_survey.proofs.phases.take_entries.Goals as goal

pub loop-entry-preserved : goal.loop-entry-preserved
loop-entry-preserved c = λ es stands.
    let xs = c.args.entries.now in
    table-moved c.take_entry.new.table.items xs es c.loop-entry.entry-index _ c.loop-entry-test.true
    (c.take_entry.ensures (take c.loop-entry.entry-index xs ++ es) (c.loop-entry.invariant es stands))

pub returns : goal.returns
returns c = λ es stands.
    let xs : List CellEntry = c.args.entries.now in
    let all : take c.loop-entry.entry-index xs ≡ xs = grind (arith, common_steps) in
    subst (λ (ys : List CellEntry). CountsPlaces c.loop-entry.table.items (ys ++ es)) all (c.loop-entry.invariant es stands)
