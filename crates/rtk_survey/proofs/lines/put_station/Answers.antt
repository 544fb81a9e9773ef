use Rattle.std.proofs.Common.{◌++◌, List, ℕ, Option, false, get_or, sym, ap, ◌∙◌}
use Rattle.std.specs.Prelude.{codes}
use Rattle.rtk_obs.specs.AnyCode.{number_of}
use Rattle.rtk_obs.specs.Code.{place_of}
use Rattle.rtk_survey.specs.declared.equipment.Equipment.{Equipment}
use Rattle.rtk_survey.specs.BitMarks.{is_marked_in}
use Rattle.rtk_survey.specs.Chains.{no_clocks, clocks_at}
use Rattle.rtk_survey.specs.FrameDates.{proposed_date}
use Rattle.rtk_survey.specs.FrameEquipment.{told_lines}
use Rattle.rtk_survey.specs.NextCommand.{station_proposal}
use Rattle.rtk_survey.specs.Steps.OtherSystems.{glonass_held, taken_held, clocked_held}
use Rattle.rtk_survey.specs.Summary.{station_lines}
use Rattle.rtk_survey.specs.SummaryText.{number_line, message_lines, system_epoch_lines, channel_line, time_lines, near_text, signal_lines}
use Rattle.rtk_survey.specs.Contents.{equipment_at, epochs_held, codes_held}
use Rattle.rtk_survey.specs.Steps.Tables.{messages_held, system_epochs_held, place_is_counted}
use Rattle.rtk_survey.specs.Tracing.{times_of_week}
use Rattle.rtk_survey.specs.UncheckedClocks.{all_clock_lines}
use Rattle.rtk_survey.specs.declared.clock_chains.ClockSurvey.{ClockSurvey}
use Rattle.rtk_survey.specs.declared.date_message.UtcDate.{UtcDate}
use Rattle.rtk_survey.specs.declared.station_dates.StationDates.{StationDates}
use Rattle.rtk_survey.specs.declared.systems_sent.SystemsSent.{SystemsSent}
use Rattle.rtk_survey.proofs.LineLemmas.{own-survey, station-lines-are}
use Rattle.rtk_survey.proofs.ListLemmas.{and-then}
use Rattle.rtk_survey.proofs.lines.put_station.Goals as goal

pub returns : goal.returns
returns c = λ ms date told stands.
    let s = c.args.station.now in
    let d : StationDates = s.dates in
    let e : Equipment = equipment_at s.equipment in
    let name : List ℕ = c.args.name.now in
    let number : ℕ = c.args.number in
    let times : List ℕ = times_of_week ms in
    let signals : List ℕ =
    signal_lines (λ n. get_or s.signals.satellites n false) (λ code. get_or s.signals.codes.marks (place_of code) false)
    (λ n. is_marked_in s.system_signals.satellites.words n) (λ code. is_marked_in s.system_signals.codes.words (number_of code)) in
    let sent : SystemsSent = clocked_held s in
    let l0 : List ℕ = c.args.lines.now.items in
    let l1 : List ℕ = c.put_line.new.lines.items in
    let l2 : List ℕ = c.put_messages.new.lines.items in
    let l3 : List ℕ = c.put_times.new.lines.items in
    let l4 : List ℕ = c.put_told.new.lines.items in
    let l5 : List ℕ = c.put_signals.new.lines.items in
    let l6 : List ℕ = c.put_epochs.new.lines.items in
    let l7 : List ℕ = c.put_channels.new.lines.items in
    let l8 : List ℕ = c.put_clocks.new.lines.items in
    let l9 : List ℕ = c.put_proposal.new.lines.items in
    and-then l0 l8 l9 _ (station_proposal name (near_text (proposed_date d)) number (epochs_held s.msm) (codes_held s.msm) (system_epochs_held s) (taken_held (proposed_date d) s) (glonass_held (proposed_date d) s))
    (and-then l0 l7 l8 _ (all_clock_lines (proposed_date d) sent (clocks_at s.clocks).offsets)
    (and-then l0 l6 l7 _ (channel_line (place_is_counted s.channels))
    (and-then l0 l5 l6 _ (system_epoch_lines (system_epochs_held s))
    (and-then l0 l4 l5 _ signals
    (and-then l0 l3 l4 _ (told_lines d e)
    (and-then l0 l2 l3 _ (time_lines times)
    (and-then l0 l1 l2 (number_line (codes "station ") number) (message_lines (messages_held s))
    (c.in_ok-put_line.ensures ∙ ap (λ (n : ℕ). l0 ++ number_line (codes "station ") n) c.from.ensures) c.in_ok-put_messages.ensures)
    (c.in_ok-put_times.ensures times stands.times))
    c.in_ok-put_told.ensures)
    c.in_ok-put_signals.ensures)
    c.in_ok-put_epochs.ensures)
    c.in_ok-put_channels.ensures)
    (c.in_ok-put_clocks.ensures ∙ ap (λ (t : List ClockSurvey). l7 ++ all_clock_lines c.proposed_date.result c.systems_clocked-sent.result (get_or t 0 no_clocks).offsets) c.as_slice.ensures.value
    ∙ ap (λ (o : Option UtcDate). l7 ++ all_clock_lines o c.systems_clocked-sent.result (clocks_at s.clocks).offsets) c.proposed_date.ensures
    ∙ ap (λ (x : SystemsSent). l7 ++ all_clock_lines (proposed_date d) x (clocks_at s.clocks).offsets) c.systems_clocked-sent.ensures))
    c.in_ok-put_proposal.ensures
    ∙ ap (λ (t : List ℕ). l0 ++ t) (sym (station-lines-are name number s d e ms (own-survey ms date told s stands)))
    ∙ ap (λ (x : StationDates). l0 ++ station_lines name number ms x e) stands.dates ∙ ap (λ (x : Equipment). l0 ++ station_lines name number ms date x) stands.equipment
