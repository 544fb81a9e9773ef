use Rattle.std.proofs.Common.{ℕ, Option, ap, ◌∙◌}
use Rattle.rtk_survey.specs.StationClocks.{clocks_by_station, with_time_for}
use Rattle.rtk_survey.specs.Targets.{marks_if_known}
use Rattle.rtk_survey.specs.declared.clock_marks.ClockMarks.{ClockMarks}
use Rattle.rtk_survey.proofs.StationClockLemmas.{time-more}
use Rattle.rtk_survey.proofs.ResultLemmas.{both-ok}
use Rattle.rtk_survey.proofs.target.take_time_of.Goals as goal

pub returns : goal.returns
returns c = both-ok c.take_followed_time.result (λ own others n.
    let old = c.args.clocks.now in
    let told = c.args.told in
    time-more old c.take_followed_time.new.clocks c.station-station.result c.marks_if_known-marks.result told own others n
    ∙ ap (λ (e : Option ClockMarks). with_time_for n c.station-station.result e told (clocks_by_station old n)) c.marks_if_known-marks.ensures
    ∙ ap (λ (k : ℕ). with_time_for n k (marks_if_known c.args.now k c.args.dates.now) told (clocks_by_station old n)) c.station-station.ensures)
    c.take_followed_time.ensures.own c.take_followed_time.ensures.others
