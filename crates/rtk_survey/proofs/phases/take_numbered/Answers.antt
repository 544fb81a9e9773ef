use Rattle.std.proofs.Common.{◌≡◌, ◌++◌, List, true, false, sym, ap, subst, ◌∙◌, ne_eqb, arith}
use Rattle.std.proofs.lemmas.Bool.{eq-eqb}
use Rattle.rtk_message.specs.AnyDecoded.{number_of}
use Rattle.rtk_obs.specs.declared.cell.CellEntry.{CellEntry}
use Rattle.rtk_survey.specs.Phases.{entries_numbered, CountsPhases}
use Rattle.rtk_survey.specs.Tracing.{is_numbered}
use Rattle.rtk_survey.proofs.PhaseLemmas.{is-there}
use Rattle.rtk_survey.proofs.TargetLemmas.{numbered, not-numbered}
use Rattle.rtk_survey.proofs.phases.take_numbered.Goals as goal

pub returns-in_ok-make_table : goal.returns-in_ok-make_table
returns-in_ok-make_table c = λ ms counts.
    let number = c.args.number in
    let same : number_of c.args.message.now ≡ number = omega (arith, c.number.ensures, c.if-number.true) in
    let holds : is_numbered number c.args.message.now ≡ true = eq-eqb (number_of c.args.message.now) number same in
    let table = c.take_entries.new.table.items in
    let more = c.take_entries.ensures (entries_numbered number ms) (c.in_ok-make_table.ensures (entries_numbered number ms) counts) in
    subst (λ (es : List CellEntry). CountsPhases table es)
    (ap (λ (xs : List CellEntry). xs ++ entries_numbered number ms) c.requires ∙ sym (numbered number c.args.message.now ms holds))
    (is-there table (c.args.entries.now ++ entries_numbered number ms) more)

pub returns-else-number : goal.returns-else-number
returns-else-number c = λ ms counts.
    let fails : is_numbered c.args.number c.args.message.now ≡ false = ne_eqb (number_of c.args.message.now) c.args.number (λ same. omega (arith, same, c.number.ensures, c.if-number.false)) in
    subst (λ (es : List CellEntry). CountsPhases c.args.table.now.items es) (sym (not-numbered c.args.number c.args.message.now ms fails)) counts
