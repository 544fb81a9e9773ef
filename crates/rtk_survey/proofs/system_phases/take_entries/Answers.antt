use Rattle.std.proofs.Common.{◌≡◌, ◌∷◌, ◌++◌, ℕ, List, take, subst, arith}
use Rattle.std.proofs.lemmas.Grind.{common_steps}
use Rattle.rtk_obs.specs.declared.signal_cells.SignalEntry.{SignalEntry}
use Rattle.rtk_survey.specs.SystemPhases.{CountsSignalPlaces}
use Rattle.rtk_survey.proofs.SystemPhaseLemmas.{table-moved}
use Rattle.rtk_survey.proofs.system_phases.take_entries.Goals as goal

pub loop-entry-preserved : goal.loop-entry-preserved
loop-entry-preserved c = λ es stands.
    let xs : List SignalEntry = c.args.entries.now in
    let i : ℕ = c.loop-entry.entry-index in
    let x : SignalEntry = c.entry-item.result in
    table-moved c.take_entry.new.table.items xs es i x c.loop-entry-test.true
    (subst (λ (y : SignalEntry). CountsSignalPlaces c.take_entry.new.table.items (y ∷ (take i xs ++ es))) c.entry-item.is
    (c.take_entry.ensures (take i xs ++ es) (c.loop-entry.invariant es stands)))

pub returns : goal.returns
returns c = λ es stands.
    let xs : List SignalEntry = c.args.entries.now in
    let all : take c.loop-entry.entry-index xs ≡ xs = grind (arith, common_steps) in
    subst (λ (ys : List SignalEntry). CountsSignalPlaces c.loop-entry.table.items (ys ++ es)) all (c.loop-entry.invariant es stands)
