use Rattle.std.proofs.Common.{◌≡◌, ℕ, true, false, List, Option, sym, subst}
use Rattle.rtk_captures.specs.Dating.{ArePlaced, IsNearOf, IsSpanOf}
use Rattle.rtk_captures.specs.declared.refusal.Refusal.{Refusal}
use Rattle.rtk_captures.specs.declared.refusal.Refusal.TheVariants.{TooLong}
use Rattle.rtk_captures.specs.declared.station_capture.StationCapture.{StationCapture}
use Rattle.rtk_systems.specs.SlotChannels.{AreSecondsChosen}
use Rattle.rtk_plan.specs.ClockReach.{has_far_clock}
use Rattle.rtk_plan.specs.Plan.{HaveFarClocks}
use Rattle.rtk_plan.specs.declared.clock_dating.ClockDating.{ClockDating}
use Rattle.rtk_survey.proofs.ResultLemmas.{on-ok}
use Rattle.rtk_plan.proofs.ClockReachLemmas.{far-clocks}
use Rattle.rtk_plan.proofs.RefusedLemmas.{refused-by}
use Rattle.rtk_plan.proofs.clock_reach.demand_near_clocks.Goals as goal

pub returns-clause-near : goal.returns-clause-near
returns-clause-near c =
    let ss = c.args.captured.now.all.surveys.now in
    let given = c.args.given in
    let station = c.args.captured.now.station in
    let first = c.args.dating.now.near in
    let n = c.seconds_chosen-chosen.result in
    let placed = c.args.dating.now.placed.items in
    let span = c.args.dating.now.span in
    let way : ClockDating = c.of_station-way.result in
    on-ok c.demand_near.result (λ far.
    far-clocks ss given station c.args.setup.now first n placed span way c.clocks_taken-taken.result c.near.result c.as_slice.result.now false
    (subst (λ (cs : List StationCapture). IsNearOf given cs first) c.requires.captures c.requires.near)
    (subst (λ (cs : List StationCapture). ArePlaced given cs placed) c.requires.captures c.requires.placed)
    (subst (λ (cs : List StationCapture). IsSpanOf given cs station span) c.requires.captures c.requires.span)
    (subst (λ (o : Option ℕ). AreSecondsChosen o first n) (sym c.requires.seconds) c.seconds_chosen-chosen.ensures.said)
    c.of_station-way.ensures
    c.clocks_taken-taken.ensures c.near.ensures.value c.as_slice.ensures.value far) c.demand_near.ensures.near

pub returns-clause-refused : goal.returns-clause-refused
returns-clause-refused c =
    let ss = c.args.captured.now.all.surveys.now in
    let given = c.args.given in
    let station = c.args.captured.now.station in
    let first = c.args.dating.now.near in
    let n = c.seconds_chosen-chosen.result in
    let placed = c.args.dating.now.placed.items in
    let span = c.args.dating.now.span in
    let way : ClockDating = c.of_station-way.result in
    refused-by (λ (r : Refusal). (r ≡ TooLong) × (has_far_clock way c.clocks_taken-taken.result c.near.result c.as_slice.result.now ss ≡ true))
    (λ (r : Refusal). (r ≡ TooLong) × HaveFarClocks ss given station c.args.setup.now true)
    c.demand_near.result (λ r far. (
      far.0,
      far-clocks ss given station c.args.setup.now first n placed span way c.clocks_taken-taken.result c.near.result c.as_slice.result.now true
          (subst (λ (cs : List StationCapture). IsNearOf given cs first) c.requires.captures c.requires.near)
          (subst (λ (cs : List StationCapture). ArePlaced given cs placed) c.requires.captures c.requires.placed)
          (subst (λ (cs : List StationCapture). IsSpanOf given cs station span) c.requires.captures c.requires.span)
          (subst (λ (o : Option ℕ). AreSecondsChosen o first n) (sym c.requires.seconds) c.seconds_chosen-chosen.ensures.said)
          c.of_station-way.ensures
          c.clocks_taken-taken.ensures c.near.ensures.value c.as_slice.ensures.value far.1,
    )) c.demand_near.ensures.refused
