use Rattle.std.proofs.Common.{rules, ◌≡◌, ◌∷◌, ℕ, sym, subst}
use Rattle.std.specs.BTreeMap.{BTreeMap}
use Rattle.std.specs.BTreeMap.Entry.{map_with_value}
use Rattle.rtk_survey.specs.Contents.{AreStations}
use Rattle.rtk_survey.specs.declared.station.StationSurvey.{StationSurvey}
use Rattle.rtk_survey.proofs.ResultLemmas.{on-ok}
use Rattle.rtk_survey.proofs.StationLemmas.{entry-or-new, equipment-more}
use Rattle.rtk_survey.proofs.stations.take_equipment.Goals as goal

pub returns : goal.returns
returns c =
    let after = c.take_equipment.new.self in
    let m = map_with_value c.in_ok-stations.field-0 after in
    let had = entry-or-new _ _ _ _ c.or_insert_with-station.ensures.value c.in_ok-stations.ensures.value (λ new made. search rules) in
    let e : c.stations-3-1.given.0 ≡ m = search rules in
    on-ok c.take_equipment.result
    (λ took ms ds es all. subst (λ (x : BTreeMap ℕ StationSurvey). AreStations ms ds (c.args.message ∷ es) x) (sym e)
    (equipment-more c.args.stations.now m c.or_insert_with-station.result.now after ms ds es c.args.message had
    (c.in_ok-stations.ensures.update.0 after) took all))
    c.take_equipment.ensures
