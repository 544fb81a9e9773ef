use Rattle.std.proofs.Common.{◌≡◌, ◌∷◌, ◌++◌, ℕ, List, take, subst, arith}
use Rattle.std.proofs.lemmas.Grind.{common_steps}
use Rattle.rtk_obs.specs.declared.signal_cells.SignalEntry.{SignalEntry}
use Rattle.rtk_survey.specs.Contents.{HasSystemSignals}
use Rattle.rtk_survey.proofs.SystemLemmas.{signals-more}
use Rattle.rtk_survey.proofs.system_signals.SystemSignals.mark_entries.Goals as goal

pub loop-entry-preserved : goal.loop-entry-preserved
loop-entry-preserved c = λ es stands.
    let xs : List SignalEntry = c.args.entries.now in
    let i : ℕ = c.loop-entry.entry-index in
    let x : SignalEntry = c.entry-item.result in
    signals-more c.mark_entry.new.self xs es i x c.loop-entry-test.true
    (subst (λ (y : SignalEntry). HasSystemSignals c.mark_entry.new.self (y ∷ (take i xs ++ es))) c.entry-item.is
    (c.mark_entry.ensures (take i xs ++ es) (c.loop-entry.invariant es stands)))

pub returns : goal.returns
returns c = λ es stands.
    let xs : List SignalEntry = c.args.entries.now in
    let all : take c.loop-entry.entry-index xs ≡ xs = grind (arith, common_steps) in
    subst (λ (ys : List SignalEntry). HasSystemSignals c.loop-entry.self (ys ++ es)) all (c.loop-entry.invariant es stands)
