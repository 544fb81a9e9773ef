use Rattle.std.proofs.Common.{◌++◌, ℕ, Bool, List, ap, ◌∙◌}
use Rattle.rtk_plan.specs.KnownLines.{skipped_lines, epochs_lines, leaves_long, not_taken, lines_behind_late}
use Rattle.rtk_plan.specs.LeftOut.{left_out_lines}
use Rattle.rtk_survey.specs.Surveys.{places_of}
use Rattle.rtk_survey.proofs.PublicLaws.{three-parts}
use Rattle.rtk_plan.proofs.known_lines.put_last_lines.Goals as goal

pub returns : goal.returns
unfolding lines_behind_late
returns c =
    let names = c.args.captures.now.names.now in
    let plan = c.args.plan.now in
    let told : List ℕ = skipped_lines names plan.captures.items plan.skipped.items ++ epochs_lines names plan.captures.items (places_of plan.links.items) in
    let ss = c.args.captures.now.surveys.now in
    let rest : List ℕ = not_taken ss (leaves_long ss plan) plan.setup in
    let left : List ℕ = left_out_lines names ss plan in
    c.in_ok-put_left_out.ensures
    ∙ ap (λ (l : List ℕ). l ++ left) (c.in_ok-put_not_taken_in.ensures
    ∙ ap (λ (b : Bool). c.put_captures_in.new.lines.items ++ not_taken ss b plan.setup) c.leaves_long-is_long.ensures
    ∙ ap (λ (l : List ℕ). l ++ rest) c.in_ok-put_captures_in.ensures)
    ∙ three-parts c.args.lines.now.items told rest left
