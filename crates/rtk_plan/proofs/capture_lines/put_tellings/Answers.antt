use Rattle.std.proofs.Common.{◌++◌, ℕ, List, ap, ◌∙◌}
use Rattle.rtk_captures.specs.StationCaptures.{weeks_passed_over, others_passed_over, system_weeks_passed_over}
use Rattle.rtk_plan.specs.KnownLines.{other_date_lines, more_dates_line, other_dates}
use Rattle.rtk_survey.specs.CaptureDates.{counting}
use Rattle.rtk_survey.specs.declared.tellings.Told.{Told}
use Rattle.rtk_survey.proofs.PublicLaws.{five-parts}
use Rattle.rtk_plan.proofs.capture_lines.put_tellings.Goals as goal

pub returns : goal.returns
unfolding other_dates
returns c =
    let told = c.args.told.now in
    let those : List Told → List ℕ = λ ts. other_date_lines c.args.near c.args.span.now c.args.name.now ts in
    let a : List ℕ = those (counting told) in
    let b : List ℕ = those (weeks_passed_over told) in
    let d : List ℕ = those (others_passed_over told) in
    let e : List ℕ = those (system_weeks_passed_over told) in
    let f : List ℕ = more_dates_line c.args.name.now told in
    c.in_ok-put_more_dates.ensures
    ∙ ap (λ (l : List ℕ). l ++ f) (c.in_ok-put_those_of-4.ensures
    ∙ ap (λ (ts : List Told). c.put_those_of-3.new.lines.items ++ those ts) c.system_weeks_passed_over.ensures
    ∙ ap (λ (l : List ℕ). l ++ e) (c.in_ok-put_those_of-3.ensures
    ∙ ap (λ (ts : List Told). c.put_those_of-2.new.lines.items ++ those ts) c.others_passed_over.ensures
    ∙ ap (λ (l : List ℕ). l ++ d) (c.in_ok-put_those_of-2.ensures
    ∙ ap (λ (ts : List Told). c.put_those_of.new.lines.items ++ those ts) c.weeks_passed_over.ensures
    ∙ ap (λ (l : List ℕ). l ++ b) (c.in_ok-put_those_of.ensures ∙ ap (λ (ts : List Told). c.args.lines.now.items ++ those ts) c.counting.ensures))))
    ∙ five-parts c.args.lines.now.items a b d e f
