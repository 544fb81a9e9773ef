use Rattle.std.proofs.Common.{◌≡◌, ◌++◌, ℕ, List, ap, ◌∙◌, arith}
use Rattle.std.specs.Prelude.{flat_map}
use Rattle.std.specs.List.{range_with_len}
use Rattle.rtk_survey.specs.Contents.{count_at}
use Rattle.rtk_survey.specs.Counting.{count_of}
use Rattle.rtk_survey.specs.Summary.{weeks_text_of}
use Rattle.rtk_survey.specs.SummaryText.{system_week_line}
use Rattle.rtk_survey.specs.SystemTellings.{names_week}
use Rattle.rtk_survey.proofs.ListLemmas.{put-more, lines-agree}
use Rattle.rtk_survey.proofs.date_lines.put_weeks_of.Goals as goal

pub loop-week-preserved : goal.loop-week-preserved
loop-week-preserved c =
    let w : ℕ = c.loop-week.week in
    let number : ℕ = c.args.number in
    let before : List ℕ = c.loop-week.lines.items in
    put-more (λ w. system_week_line number w (count_at c.args.weeks.now w)) 0 w w c.args.lines.now.items before c.put_system_week.new.lines.items
    (omega arith) c.loop-week.invariant
    (c.in_ok-put_system_week.ensures ∙ ap (λ (k : ℕ). before ++ system_week_line number w k) c.count_of_number.ensures)

pub returns : goal.returns
unfolding weeks_text_of
returns c = λ ts are.
    let number : ℕ = c.args.number in
    let held : ℕ → List ℕ = λ w. system_week_line number w (count_at c.args.weeks.now w) in
    let told : ℕ → List ℕ = λ w. system_week_line number w (count_of (names_week number w) ts) in
    let end : c.loop-week.week ≡ c.args.below = omega (arith, c.loop-week.auto.week-end, c.loop-week-test.false) in
    c.loop-week.invariant
    ∙ ap (λ (k : ℕ). c.args.lines.now.items ++ flat_map held (range_with_len 0 k)) end
    ∙ ap (λ (t : List ℕ). c.args.lines.now.items ++ t) (lines-agree held told 0 c.args.below (λ k lt. ap (λ (n : ℕ). system_week_line number k n) (are k)))
