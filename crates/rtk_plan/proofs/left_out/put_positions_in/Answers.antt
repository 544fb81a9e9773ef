use Rattle.std.proofs.Common.{◌++◌, ℕ, List, ap, ◌∙◌}
use Rattle.rtk_captures.specs.OtherPositions.{other_position_lines}
use Rattle.rtk_captures.specs.declared.station_capture.StationCapture.{StationCapture}
use Rattle.rtk_survey.specs.Surveys.{places_of}
use Rattle.rtk_plan.proofs.left_out.put_positions_in.Goals as goal

pub returns : goal.returns
returns c =
    let names = c.args.captures.now.names.now in
    let plan = c.args.plan.now in
    let old : List ℕ = c.args.lines.now.items in
    c.in_ok-put_other_positions.ensures
    ∙ ap (λ (cs : List StationCapture). old ++ other_position_lines names cs (places_of c.as_slice.result.now)) c.as_slice-told.ensures.value
    ∙ ap (λ (ls : List (List ℕ)). old ++ other_position_lines names plan.captures.items ls) (ap places_of c.as_slice.ensures.value)
