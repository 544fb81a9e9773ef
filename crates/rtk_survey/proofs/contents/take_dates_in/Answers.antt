use Rattle.std.proofs.Common.{Option, sym, subst, ◌∙◌}
use Rattle.std.specs.List.{cons_option}
use Rattle.rtk_survey.specs.Contents.{AreStations, CountsWeeks}
use Rattle.rtk_survey.specs.declared.date_message.DateMessage.{DateMessage}
use Rattle.rtk_survey.proofs.ResultLemmas.{on-ok}
use Rattle.rtk_survey.proofs.contents.take_dates_in.Goals as goal

pub returns-in-Some-clause-stations : goal.returns-in-Some-clause-stations
returns-in-Some-clause-stations c = on-ok c.take_date_message.result
    (λ took ms ds es all. subst (λ (o : Option DateMessage). AreStations ms (cons_option o ds) es c.take_date_message.new.stations) (sym c.in-Some.is ∙ c.date_in.ensures) (took ms ds es all))
    c.take_date_message.ensures.stations

pub returns-in-Some-clause-weeks : goal.returns-in-Some-clause-weeks
returns-in-Some-clause-weeks c = on-ok c.take_date_message.result
    (λ took ds counts. subst (λ (o : Option DateMessage). CountsWeeks c.take_date_message.new.weeks (cons_option o ds)) (sym c.in-Some.is ∙ c.date_in.ensures) (took ds counts))
    c.take_date_message.ensures.weeks

pub returns-in-None-clause-stations : goal.returns-in-None-clause-stations
returns-in-None-clause-stations c = λ ms ds es all.
    subst (λ (o : Option DateMessage). AreStations ms (cons_option o ds) es c.args.stations.now) (sym c.in-None.is ∙ c.date_in.ensures) all

pub returns-in-None-clause-weeks : goal.returns-in-None-clause-weeks
returns-in-None-clause-weeks c = λ ds counts.
    subst (λ (o : Option DateMessage). CountsWeeks c.args.weeks.now (cons_option o ds)) (sym c.in-None.is ∙ c.date_in.ensures) counts
