use Rattle.std.proofs.Common.{rules, ◌≡◌, ◌∷◌, ◌++◌, ℕ, List, Option, sym, subst, ap, ◌∙◌}
use Rattle.std.specs.BTreeMap.{BTreeMap}
use Rattle.std.specs.BTreeMap.Entry.{map_with_value}
use Rattle.std.specs.Option.{unwrap_or}
use Rattle.rtk_obs.specs.declared.signal_cells.SignalEntry.{SignalEntry}
use Rattle.rtk_survey.specs.SystemPhases.{CountsSignalPhases, HasPhaseTables}
use Rattle.rtk_survey.specs.declared.system_phases.PhaseTable.{PhaseTable}
use Rattle.rtk_survey.proofs.ResultLemmas.{on-ok}
use Rattle.rtk_survey.proofs.SystemPhaseLemmas.{phases-more}
use Rattle.rtk_survey.proofs.system_phases.take_numbered.Goals as goal

pub returns : goal.returns
returns c =
    let after = c.take.new.self in
    let m = map_with_value c.in_ok-tables.field-0 after in
    let was = c.or_insert-table.ensures.value ∙ ap (λ (o : Option PhaseTable). unwrap_or o c.new.result) c.in_ok-tables.ensures.value in
    let e : c.tables-3-1.given.0 ≡ m = search rules in
    on-ok c.take.result
    (λ took ms all. subst (λ (x : BTreeMap ℕ PhaseTable). HasPhaseTables x (c.args.message.now ∷ ms)) (sym e)
    (phases-more c.args.tables.now m c.or_insert-table.result.now after c.new.result ms c.args.message.now c.number.result c.number.ensures was c.new.ensures
    (c.in_ok-tables.ensures.update.0 after)
    (λ es counts. subst (λ (cells : List SignalEntry). CountsSignalPhases after.counts.items (cells ++ es)) c.requires (took es counts)) all))
    c.take.ensures
