use Rattle.std.proofs.Common.{◌∙◌, List, Option, ap, subst}
use Rattle.std.proofs.lemmas.Result.{IfOk-weaker}
use Rattle.rtk_captures.specs.Dating.{ArePlaced, IsNearOf, IsSpanOf, captures_of}
use Rattle.rtk_captures.specs.Linking.{links_found}
use Rattle.rtk_captures.specs.declared.station_capture.StationCapture.{StationCapture}
use Rattle.rtk_survey.specs.declared.placing.Placed.{Placed}
use Rattle.rtk_plan.specs.ClockDating.{midway, clock_dating}
use Rattle.rtk_plan.specs.LinkPlaces.{places_among_links}
use Rattle.rtk_plan.specs.declared.clock_dating.ClockDating.{ClockDating}
use Rattle.rtk_plan.proofs.link_places.links_by_places.Goals as goal

pub returns : goal.returns
returns c = IfOk-weaker c.links_found.result _ _ (λ links found.
    let ss = c.args.captured.now.all.surveys.now in
    let given = c.args.given in
    let station = c.args.captured.now.station in
    let cs : List StationCapture = captures_of ss station in
    let first = c.args.dating.now.near in
    let n = c.seconds_chosen-seconds.result in
    let placed = c.args.dating.now.placed.items in
    let span = c.args.dating.now.span in
    let own : ClockDating = clock_dating given station n (midway span.from span.until) in (
      placed,
      subst (λ (xs : List StationCapture). ArePlaced given xs placed) c.requires.captures c.requires.placed,
      (
        span,
        subst (λ (xs : List StationCapture). IsSpanOf given xs station span) c.requires.captures c.requires.span,
        (
          first,
          subst (λ (xs : List StationCapture). IsNearOf given xs first) c.requires.captures c.requires.near,
          (
            n,
            c.seconds_chosen-seconds.ensures.said,
            found
                ∙ ap (λ (xs : List StationCapture). links_found xs c.as_slice.result.now) c.requires.captures
                ∙ ap (λ (ps : List (Option Placed)). links_found cs ps) (c.as_slice.ensures.value ∙ c.in_ok-places.ensures)
                ∙ ap (λ (x : ClockDating). links_found cs (places_among_links x c.as_slice-placed.result.now 0 ss)) c.of_station-way.ensures
                ∙ ap (λ (ps : List (Option Placed)). links_found cs (places_among_links own ps 0 ss)) c.as_slice-placed.ensures.value,
          ),
        ),
      ),
    )) c.links_found.ensures
