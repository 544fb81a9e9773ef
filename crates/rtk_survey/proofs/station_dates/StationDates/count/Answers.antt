use Rattle.std.proofs.Common.{◌∷◌, ap}
use Rattle.rtk_survey.specs.declared.date_message.DateMessage.TheVariants.{Utc}
use Rattle.rtk_survey.specs.declared.station_dates.StationDates.{StationDates}
use Rattle.rtk_survey.proofs.DateLemmas.{both-dates}
use Rattle.rtk_survey.proofs.station_dates.StationDates.count.Goals as goal

pub returns : goal.returns
returns c = λ station ds same stands.
    both-dates c.count.new.self c.count-2.new.self station (Utc c.args.date ∷ ds)
    (c.count.ensures station ds same (ap (λ (d : StationDates). d.of_1013) stands)) (c.count-2.ensures station ds same (ap (λ (d : StationDates). d.of_1029) stands))
