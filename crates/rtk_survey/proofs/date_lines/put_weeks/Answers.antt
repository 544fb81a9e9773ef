use Rattle.std.proofs.Common.{◌≡◌, ◌++◌, ℕ, List, ap, ◌∙◌, arith}
use Rattle.std.specs.Prelude.{flat_map}
use Rattle.std.specs.List.{range_with_len}
use Rattle.rtk_survey.specs.Contents.{count_at}
use Rattle.rtk_survey.specs.Counting.{count_of}
use Rattle.rtk_survey.specs.FrameDates.{is_of_week}
use Rattle.rtk_survey.specs.Summary.{weeks_text}
use Rattle.rtk_survey.specs.SummaryText.{week_line}
use Rattle.rtk_survey.proofs.ListLemmas.{put-more, lines-agree}
use Rattle.rtk_survey.proofs.date_lines.put_weeks.Goals as goal

pub loop-week-preserved : goal.loop-week-preserved
loop-week-preserved c =
    let w : ℕ = c.loop-week.week in
    let before : List ℕ = c.loop-week.lines.items in
    put-more (λ w. week_line w (count_at c.args.weeks.now w)) 0 w w c.args.lines.now.items before c.put_week.new.lines.items
    (omega arith) c.loop-week.invariant
    (c.in_ok-put_week.ensures
    ∙ ap (λ (k : ℕ). before ++ week_line c.from.result k) c.count_of_number.ensures
    ∙ ap (λ (k : ℕ). before ++ week_line k (count_at c.args.weeks.now w)) c.from.ensures)

pub returns : goal.returns
unfolding weeks_text
returns c = λ ds are.
    let held : ℕ → List ℕ = λ w. week_line w (count_at c.args.weeks.now w) in
    let told : ℕ → List ℕ = λ w. week_line w (count_of (is_of_week w) ds) in
    let end : c.loop-week.week ≡ 1024 = omega (arith, c.loop-week.auto.week-end, c.loop-week-test.false) in
    c.loop-week.invariant
    ∙ ap (λ (k : ℕ). c.args.lines.now.items ++ flat_map held (range_with_len 0 k)) end
    ∙ ap (λ (t : List ℕ). c.args.lines.now.items ++ t) (lines-agree held told 0 1024 (λ k lt. ap (λ (n : ℕ). week_line k n) (are k)))
