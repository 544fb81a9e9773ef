use Rattle.std.proofs.Common.{◌++◌, ℕ, List, ap, ◌∙◌}
use Rattle.rtk_plan.specs.KnownLines.{undated_notes, all_other_dates, clock_lines_of, few_phases_lines, stray_lines, lines_before_late}
use Rattle.rtk_plan.specs.OtherEquipment.{equipment_notes}
use Rattle.rtk_plan.specs.Plan.{taken_messages}
use Rattle.rtk_systems.specs.ToldChannels.{told_channel_lines}
use Rattle.rtk_survey.proofs.PublicLaws.{seven-parts}
use Rattle.rtk_plan.proofs.known_lines.put_first_lines.Goals as goal

pub returns : goal.returns
unfolding lines_before_late
returns c =
    let names = c.args.captures.now.names.now in
    let ss = c.args.captures.now.surveys.now in
    let plan = c.args.plan.now in
    let a : List ℕ = undated_notes names ss plan in
    let b : List ℕ = all_other_dates names plan.setup.station plan.setup.near ss in
    let k : List ℕ = clock_lines_of names ss plan in
    let d : List ℕ = few_phases_lines ss plan.setup.station (taken_messages plan.setup) plan.setup.head.listed in
    let g : List ℕ = told_channel_lines ss plan.setup.station (taken_messages plan.setup) plan.own_channels plan.setup.head.glonass in
    let e : List ℕ = equipment_notes names ss plan.setup.station c.args.told.now in
    let f : List ℕ = stray_lines names plan.span.until plan.strays.items in
    c.in_ok-put_strays.ensures
    ∙ ap (λ (ps : List ℕ). c.put_equipment_notes.new.lines.items ++ stray_lines names plan.span.until ps) c.as_slice.ensures.value
    ∙ ap (λ (l : List ℕ). l ++ f) (c.in_ok-put_equipment_notes.ensures
    ∙ ap (λ (l : List ℕ). l ++ e) (c.in_ok-put_channels_in.ensures
    ∙ ap (λ (l : List ℕ). l ++ g) (c.in_ok-put_few_phases_in.ensures
    ∙ ap (λ (l : List ℕ). l ++ d) (c.in_ok-put_clocks_in.ensures
    ∙ ap (λ (l : List ℕ). l ++ k) (c.in_ok-put_other_dates.ensures ∙ ap (λ (l : List ℕ). l ++ b) c.in_ok-put_undated_notes.ensures)))))
    ∙ seven-parts c.args.lines.now.items a b k d g e f
