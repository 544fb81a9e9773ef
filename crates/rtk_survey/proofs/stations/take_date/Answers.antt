use Rattle.std.proofs.Common.{rules, ◌≡◌, ◌∷◌, ℕ, sym, subst}
use Rattle.std.specs.BTreeMap.{BTreeMap}
use Rattle.std.specs.BTreeMap.Entry.{map_with_value}
use Rattle.rtk_survey.specs.Contents.{AreStations}
use Rattle.rtk_survey.specs.declared.date_message.DateMessage.TheVariants.{Utc}
use Rattle.rtk_survey.specs.declared.station.StationSurvey.{StationSurvey}
use Rattle.rtk_survey.proofs.StationLemmas.{entry-or-new, date-more-of}
use Rattle.rtk_survey.proofs.stations.take_date.Goals as goal

pub returns : goal.returns
returns c = λ ms ds es all.
    let after = c.take_date.new.self in
    let m = map_with_value c.in_ok-stations.field-0 after in
    let had = entry-or-new _ _ _ _ c.or_insert_with-station.ensures.value c.in_ok-stations.ensures.value (λ new made. search rules) in
    let e : c.stations-3-1.given.0 ≡ m = search rules in
    subst (λ (x : BTreeMap ℕ StationSurvey). AreStations ms (Utc c.args.date ∷ ds) es x) (sym e)
    (date-more-of c.args.stations.now m c.or_insert_with-station.result.now after ms ds es c.args.date had
    (c.in_ok-stations.ensures.update.0 after) (λ own. c.take_date.ensures own) all)
