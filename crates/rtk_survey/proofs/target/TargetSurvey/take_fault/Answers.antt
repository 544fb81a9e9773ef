use Rattle.std.proofs.Common.{ℕ, Option, sym, ap, subst, ◌∙◌}
use Rattle.std.specs.BTreeMap.{BTreeMap}
use Rattle.rtk_bits.specs.Bits.{bits}
use Rattle.rtk_survey.specs.StationClocks.{clocks_by_station}
use Rattle.rtk_survey.specs.DateMessages.{date_in}
use Rattle.rtk_survey.specs.ReadFrames.{messages_in}
use Rattle.rtk_survey.specs.EquipmentMessages.{equipment_in}
use Rattle.rtk_survey.specs.SystemPhases.{HasSystemPhases}
use Rattle.rtk_survey.specs.Targets.{dates_of, with_date_if_any, with_equipment_if_any, first_to_come, HasTargetPhases}
use Rattle.rtk_survey.specs.declared.station_clocks.StationClocks.{StationClocks}
use Rattle.rtk_survey.specs.declared.date_message.DateMessage.{DateMessage}
use Rattle.rtk_survey.specs.declared.dating_systems.DatingSystems.{DatingSystems}
use Rattle.rtk_survey.specs.declared.equipment_message.EquipmentMessage.{EquipmentMessage}
use Rattle.rtk_survey.specs.declared.phases.Phases.{Phases}
use Rattle.rtk_survey.specs.declared.system_phases.SystemPhases.{SystemPhases}
use Rattle.rtk_survey.specs.declared.target.EquipmentTimes.{EquipmentTimes}
use Rattle.rtk_survey.specs.declared.target.TargetDates.{TargetDates}
use Rattle.rtk_survey.specs.declared.tellings.Told.{Told}
use Rattle.rtk_survey.proofs.TargetLemmas.{station-of-date, systems-of-date, parted-date}
use Rattle.rtk_survey.proofs.target.TargetSurvey.take_fault.Goals as goal

pub returns : goal.returns
returns c = λ q fs fault count is.
    let old = c.args.self.now in
    let new = c.take_date.new.self in
    let told = c.take_date.ensures in
    let date = date_in (bits c.args.payload.now) in
    let station = ap (λ (d : TargetDates). d.station) told.dates ∙ station-of-date old.present old.dates c.date_in.result in
    let systems = ap (λ (d : TargetDates). d.systems) told.dates ∙ systems-of-date old.present old.dates c.date_in.result in
    record {
      present = told.others.0 ∙ is.present;
      dates = told.dates
          ∙ ap (λ (m : Option DateMessage). with_date_if_any old.present old.dates m) c.date_in.ensures
          ∙ ap (λ (n : ℕ). with_date_if_any n old.dates date) is.present
          ∙ ap (λ (d : TargetDates). with_date_if_any q.present d date) is.dates;
      phases = λ dates. subst (λ (p : Phases). HasTargetPhases p new.dates.station (messages_in fs)) (sym told.others.1)
          (subst (λ (s : Option ℕ). HasTargetPhases old.phases s (messages_in fs)) (sym station)
          (is.phases (sym (ap (λ (s : DatingSystems). s.gps) systems) ∙ dates)));
      equipment = told.others.2
          ∙ c.take.ensures
          ∙ ap (λ (m : Option EquipmentMessage). with_equipment_if_any old.dates old.equipment m) c.equipment_in.ensures
          ∙ ap (λ (d : TargetDates). with_equipment_if_any d old.equipment (equipment_in c.args.payload.now)) is.dates
          ∙ ap (λ (t : EquipmentTimes). with_equipment_if_any (dates_of q fs) t (equipment_in c.args.payload.now)) is.equipment;
      parting = parted-date q fs old c.date_in.result date c.args.frame new.parting c.date_in.ensures count is told.parting;
      to_come = told.to_come
          ∙ ap (λ (m : Option DateMessage). first_to_come old.present old.to_come m) c.date_in.ensures
          ∙ ap (λ (n : ℕ). first_to_come n old.to_come date) is.present
          ∙ ap (λ (d : Option Told). first_to_come q.present d date) is.to_come;
      clocks = λ n. ap (λ (x : BTreeMap ℕ StationClocks). clocks_by_station x n) told.others.3 ∙ is.clocks n;
      system_phases = subst (λ (p : SystemPhases). HasSystemPhases q.station (messages_in fs) p) (sym told.system_phases) is.system_phases;
    }
