use Rattle.std.proofs.Common.{Option, sym, ap, ◌∙◌}
use Rattle.rtk_message.specs.AnyDecoded.{station_of}
use Rattle.rtk_survey.specs.StationClocks.{clocks_by_station, with_time_for_if_any}
use Rattle.rtk_survey.specs.Targets.{marks_if_known}
use Rattle.rtk_survey.specs.declared.clock_spans.FollowedTime.{FollowedTime}
use Rattle.rtk_survey.proofs.ResultLemmas.{on-ok}
use Rattle.rtk_survey.proofs.target.take_clock_time.Goals as goal

pub returns-in-Some : goal.returns-in-Some
returns-in-Some c = on-ok c.take_time_of.result (λ took n.
    let k = station_of c.args.message.now in
    took n
    ∙ ap (λ (o : Option FollowedTime). with_time_for_if_any n k (marks_if_known c.args.now k c.args.dates.now) o (clocks_by_station c.args.clocks.now n))
    (sym c.in-Some.is ∙ c.followed_with_value.ensures)) c.take_time_of.ensures

pub returns-in-None : goal.returns-in-None
returns-in-None c = λ n.
    let k = station_of c.args.message.now in
    ap (λ (o : Option FollowedTime). with_time_for_if_any n k (marks_if_known c.args.now k c.args.dates.now) o (clocks_by_station c.args.clocks.now n))
    (sym c.in-None.is ∙ c.followed_with_value.ensures)
