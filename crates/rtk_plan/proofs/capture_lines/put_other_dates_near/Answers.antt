use Rattle.std.proofs.Common.{◌++◌, ℕ, List, Option, ap, ◌∙◌}
use Rattle.rtk_captures.specs.FarDateLines.{far_date_line_in}
use Rattle.rtk_captures.specs.StationCaptures.{dates_in, to_come_told}
use Rattle.rtk_captures.specs.WaitingDates.{dates_without_epoch}
use Rattle.rtk_plan.specs.KnownLines.{other_dates_of, other_to_come}
use Rattle.rtk_survey.specs.declared.capture_dates.CaptureDates.{CaptureDates}
use Rattle.rtk_survey.specs.declared.tellings.Told.{Told}
use Rattle.rtk_survey.proofs.PublicLaws.{four-parts}
use Rattle.rtk_plan.proofs.capture_lines.put_other_dates_near.Goals as goal

pub returns : goal.returns
returns c =
    let survey = c.args.survey.now in
    let name = c.args.name.now in
    let line : CaptureDates → List ℕ = λ d. other_dates_of c.args.near name d in
    let a : List ℕ = line (dates_in c.args.station survey) in
    let b : List ℕ = line (dates_without_epoch c.args.station c.args.near survey) in
    let d : List ℕ = other_to_come (to_come_told c.args.station survey) name in
    let e : List ℕ = far_date_line_in c.args.station survey name in
    c.in_ok-put_far_date.ensures
    ∙ ap (λ (l : List ℕ). l ++ e) (c.in_ok-put_other_to_come.ensures
    ∙ ap (λ (o : Option Told). c.put_other_dates_of.new.lines.items ++ other_to_come o name) c.to_come_told.ensures
    ∙ ap (λ (l : List ℕ). l ++ d) (c.in_ok-put_other_dates_of.ensures
    ∙ ap (λ (x : CaptureDates). c.put_dates_of_epochs.new.lines.items ++ line x) c.dates_without_epoch-dates.ensures
    ∙ ap (λ (l : List ℕ). l ++ b) c.in_ok-put_dates_of_epochs.ensures))
    ∙ four-parts c.args.lines.now.items a b d e
