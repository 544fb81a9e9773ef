use Rattle.std.proofs.Common.{◌∙◌, Bool, IfOk, sym, ap, subst}
use Rattle.std.proofs.lemmas.Result.{IfOk-weaker}
use Rattle.rtk_captures.specs.Linking.{links_as_given}
use Rattle.rtk_survey.specs.Surveys.{places_of}
use Rattle.rtk_plan.specs.LinkPlaces.{AreLinksOf}
use Rattle.rtk_plan.proofs.link_places.links_of_station.Goals as goal

pub returns-then-as_given : goal.returns-then-as_given
returns-then-as_given c =
    let ss = c.args.captured.now.all.surveys.now in
    let station = c.args.captured.now.station in
    subst (λ (b : Bool). IfOk c.links_as_given.result (λ links. AreLinksOf b c.args.given ss station (places_of links.items))) (sym c.if-as_given.true)
    (IfOk-weaker c.links_as_given.result _ _ (λ links is. is ∙ ap links_as_given c.requires.captures) c.links_as_given.ensures)

pub returns-else-as_given : goal.returns-else-as_given
returns-else-as_given c =
    let ss = c.args.captured.now.all.surveys.now in
    let station = c.args.captured.now.station in
    subst (λ (b : Bool). IfOk c.links_by_places.result (λ links. AreLinksOf b c.args.given ss station (places_of links.items))) (sym c.if-as_given.false)
    c.links_by_places.ensures
