use Rattle.std.proofs.Common.{◌∷◌, sym, subst}
use Rattle.rtk_survey.specs.Contents.{AreStations, CountsWeeks}
use Rattle.rtk_survey.specs.declared.date_message.DateMessage.{DateMessage}
use Rattle.rtk_survey.proofs.DateLemmas.{weeks-more, weeks-same, weeks-same-beside}
use Rattle.rtk_survey.proofs.ResultLemmas.{on-ok, both-ok}
use Rattle.rtk_survey.proofs.StationLemmas.{ephemeris-more, other-ephemeris-more}
use Rattle.rtk_survey.proofs.contents.take_date_message.Goals as goal

pub returns-in-Utc-clause-stations : goal.returns-in-Utc-clause-stations
returns-in-Utc-clause-stations c = on-ok c.take_date.result
    (λ took ms ds es all. subst (λ (m : DateMessage). AreStations ms (m ∷ ds) es c.take_date.new.stations) (sym c.in-Utc.is) (took ms ds es all)) c.take_date.ensures

pub returns-in-Utc-clause-weeks : goal.returns-in-Utc-clause-weeks
returns-in-Utc-clause-weeks c = on-ok c.take_date.result
    (λ took ds counts. subst (λ (m : DateMessage). CountsWeeks c.args.weeks.now (m ∷ ds)) (sym c.in-Utc.is) (weeks-same c.args.weeks.now c.in-Utc.date ds counts)) c.take_date.ensures

pub returns-in-Ephemeris-clause-stations : goal.returns-in-Ephemeris-clause-stations
returns-in-Ephemeris-clause-stations c = on-ok c.count_number.result
    (λ own ms ds es all. subst (λ (m : DateMessage). AreStations ms (m ∷ ds) es c.args.stations.now) (sym c.in-Ephemeris.is) (ephemeris-more c.args.stations.now c.in-Ephemeris.ephemeris ms ds es all))
    c.count_number.ensures.own

pub returns-in-Ephemeris-clause-weeks : goal.returns-in-Ephemeris-clause-weeks
returns-in-Ephemeris-clause-weeks c = both-ok c.count_number.result
    (λ own others ds counts. subst (λ (m : DateMessage). CountsWeeks c.count_number.new.counts (m ∷ ds)) (sym c.in-Ephemeris.is)
    (weeks-more c.args.weeks.now c.count_number.new.counts c.in-Ephemeris.ephemeris ds own others counts)) c.count_number.ensures.own c.count_number.ensures.others

pub returns-in-OtherEphemeris-clause-stations : goal.returns-in-OtherEphemeris-clause-stations
returns-in-OtherEphemeris-clause-stations c = λ ms ds es all.
    subst (λ (m : DateMessage). AreStations ms (m ∷ ds) es c.args.stations.now) (sym c.in-OtherEphemeris.is) (other-ephemeris-more c.args.stations.now c.in-OtherEphemeris._week ms ds es all)

pub returns-in-OtherEphemeris-clause-weeks : goal.returns-in-OtherEphemeris-clause-weeks
returns-in-OtherEphemeris-clause-weeks c = λ ds counts.
    subst (λ (m : DateMessage). CountsWeeks c.args.weeks.now (m ∷ ds)) (sym c.in-OtherEphemeris.is) (weeks-same-beside c.args.weeks.now c.in-OtherEphemeris._week ds counts)
