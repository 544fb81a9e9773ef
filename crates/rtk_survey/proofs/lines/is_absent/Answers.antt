use Rattle.std.proofs.Common.{◌≡◌, ◌==◌, true, false, not, length, ap, ◌∙◌, ne_eqb, arith}
use Rattle.std.proofs.lemmas.Bool.{eq-eqb}
use Rattle.rtk_survey.specs.Contents.{equipment_at}
use Rattle.rtk_survey.specs.FrameEquipment.{is_mentioned}
use Rattle.rtk_survey.specs.declared.equipment.Equipment.{Equipment}
use Rattle.rtk_survey.specs.declared.station_dates.StationDates.{StationDates}
use Rattle.rtk_survey.proofs.lines.is_absent.Goals as goal

pub returns-then-station-eq0 : goal.returns-then-station-eq0
returns-then-station-eq0 c = λ ms d e stands.
    let counted = stands.counts.messages in
    let none : (length ms == 0) ≡ true = eq-eqb (length ms) 0 (omega (arith, counted, c.if-station-eq0.true)) in
    rw (none, c.is_mentioned.ensures)
    (ap (λ (x : StationDates). not (is_mentioned x (equipment_at c.args.station.now.equipment))) stands.dates
    ∙ ap (λ (x : Equipment). not (is_mentioned d x)) stands.equipment)

pub returns-else-station-eq0 : goal.returns-else-station-eq0
returns-else-station-eq0 c = λ ms d e stands.
    let counted = stands.counts.messages in
    let some : (length ms == 0) ≡ false = ne_eqb (length ms) 0 (λ none. omega (arith, counted, none, c.if-station-eq0.false)) in
    rw some (ne_eqb c.args.station.now.counts.messages 0 (λ none. omega (arith, none, c.if-station-eq0.false)))
