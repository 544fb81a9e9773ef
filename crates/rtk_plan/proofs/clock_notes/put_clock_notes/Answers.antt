use Rattle.std.proofs.Common.{◌++◌, ℕ, List, ap, ◌∙◌}
use Rattle.rtk_plan.specs.ClockNotes.{undated_clock_line, falling_clock_line, day_line_by_others, clock_notes}
use Rattle.rtk_survey.proofs.PublicLaws.{three-parts}
use Rattle.rtk_plan.proofs.clock_notes.put_clock_notes.Goals as goal

pub returns : goal.returns
unfolding clock_notes
returns c =
    let taken = c.args.taken in
    let leaves = c.args.leaves_1012 in
    let capture = c.args.capture.now in
    let clocks = c.args.clocks.now in
    let name = c.args.name.now in
    let a : List ℕ = undated_clock_line c.args.source taken leaves capture clocks name in
    let b : List ℕ = falling_clock_line taken capture clocks name in
    let d : List ℕ = day_line_by_others taken leaves capture clocks name in
    c.in_ok-put_day_by_others.ensures
    ∙ ap (λ (l : List ℕ). l ++ d) (c.in_ok-put_falling_clock.ensures ∙ ap (λ (l : List ℕ). l ++ b) c.in_ok-put_undated_clock.ensures)
    ∙ three-parts c.args.lines.now.items a b d
