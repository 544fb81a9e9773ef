use Rattle.std.proofs.Common.{◌++◌, ℕ, List, ap, ◌∙◌}
use Rattle.rtk_captures.specs.OtherPositions.{other_position_lines}
use Rattle.rtk_plan.specs.LeftOut.{all_refused}
use Rattle.rtk_plan.specs.Plan.{taken_messages}
use Rattle.rtk_setup.specs.Setup.{taken_by}
use Rattle.rtk_survey.specs.Surveys.{places_of}
use Rattle.rtk_systems.specs.NamelessLines.{nameless_lines}
use Rattle.rtk_survey.proofs.PublicLaws.{three-parts}
use Rattle.rtk_plan.proofs.left_out.put_left_out.Goals as goal

pub returns : goal.returns
returns c =
    let names = c.args.captures.now.names.now in
    let ss = c.args.captures.now.surveys.now in
    let plan = c.args.plan.now in
    let a : List ℕ = all_refused names (taken_by plan.setup) ss in
    let b : List ℕ = nameless_lines plan.setup.head.listed ss plan.setup.station (taken_messages plan.setup) in
    let d : List ℕ = other_position_lines names plan.captures.items (places_of plan.links.items) in
    c.in_ok-put_positions_in.ensures
    ∙ ap (λ (l : List ℕ). l ++ d) (c.in_ok-put_nameless_in.ensures ∙ ap (λ (l : List ℕ). l ++ b) c.in_ok-put_refused_in.ensures)
    ∙ three-parts c.args.lines.now.items a b d
