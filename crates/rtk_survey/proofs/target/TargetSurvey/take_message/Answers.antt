use Rattle.std.proofs.Common.{ℕ, sym, ap, ◌∙◌}
use Rattle.rtk_message.specs.AnyDecoded.{station_of}
use Rattle.rtk_survey.specs.ClockSpans.{followed_with_value}
use Rattle.rtk_survey.specs.StationClocks.{with_time_for_if_any}
use Rattle.rtk_survey.specs.ReadFrames.{messages_in}
use Rattle.rtk_survey.specs.Targets.{with_observation, marks_if_known, clocks_in}
use Rattle.rtk_survey.specs.declared.station_clocks.StationClocks.{StationClocks}
use Rattle.rtk_survey.specs.declared.dating_systems.DatingSystems.{DatingSystems}
use Rattle.rtk_survey.specs.declared.target.TargetDates.{TargetDates}
use Rattle.rtk_survey.proofs.ResultLemmas.{on-ok}
use Rattle.rtk_survey.proofs.TargetLemmas.{station-of-dates, systems-of-dates, parted-message}
use Rattle.rtk_survey.proofs.target.TargetSurvey.take_message.Goals as goal

pub returns : goal.returns
returns c = on-ok c.take_phases.result (λ took q fs payload count is.
    let old = c.args.self.now in
    let m = c.args.message.now in
    let station = ap (λ (d : TargetDates). d.station) c.take_message.ensures ∙ station-of-dates old.present old.dates m in
    let systems = ap (λ (d : TargetDates). d.systems) c.take_message.ensures ∙ systems-of-dates old.present old.dates m in
    record {
      present = is.present;
      dates = c.take_message.ensures
          ∙ ap (λ (n : ℕ). with_observation n old.dates m) is.present
          ∙ ap (λ (d : TargetDates). with_observation q.present d m) is.dates;
      phases = λ dates.
          let dated = sym (ap (λ (s : DatingSystems). s.gps) systems) ∙ dates in
          took old.dates.systems old.dates.station (messages_in fs) dated station (is.phases dated);
      equipment = is.equipment;
      parting = parted-message q fs old m c.args.frame c.take_message.new.dates c.take_message_of.new.self c.take_message.ensures count is c.take_message_of.ensures;
      to_come = is.to_come;
      clocks = λ n.
          let k = station_of m in
          c.in_ok-take_clock_time.ensures n
          ∙ ap (λ (s : StationClocks). with_time_for_if_any n k (marks_if_known old.present k old.dates) (followed_with_value m) s) (is.clocks n)
          ∙ ap (λ (t : ℕ). with_time_for_if_any n k (marks_if_known t k old.dates) (followed_with_value m) (clocks_in q fs n)) is.present
          ∙ ap (λ (d : TargetDates). with_time_for_if_any n k (marks_if_known q.present k d) (followed_with_value m) (clocks_in q fs n)) is.dates;
      system_phases = c.in_ok-count_phases.ensures q.station (messages_in fs) is.system_phases;
    }) c.take_phases.ensures
