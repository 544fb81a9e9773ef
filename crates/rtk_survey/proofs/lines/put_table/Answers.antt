use Rattle.std.proofs.Common.{◌≡◌, ◌++◌, ℕ, List, ap, ◌∙◌, arith}
use Rattle.std.specs.Prelude.{flat_map}
use Rattle.std.specs.List.{range_with_len}
use Rattle.rtk_survey.specs.Contents.{count_at}
use Rattle.rtk_survey.specs.Summary.{all_numbers}
use Rattle.rtk_survey.specs.SummaryText.{numbered_line}
use Rattle.rtk_survey.specs.Steps.Tables.{counts_text}
use Rattle.rtk_survey.proofs.ListLemmas.{put-more}
use Rattle.rtk_survey.proofs.lines.put_table.Goals as goal

pub loop-number-preserved : goal.loop-number-preserved
loop-number-preserved c =
    let words : List ℕ = c.args.words.now in
    let n : ℕ = c.loop-number.number in
    let before : List ℕ = c.loop-number.lines.items in
    put-more (λ n. numbered_line words n (count_at c.args.counts.now n)) 0 n n c.args.lines.now.items before c.put_numbered.new.lines.items
    (omega arith) c.loop-number.invariant
    (c.in_ok-put_numbered.ensures
    ∙ ap (λ (k : ℕ). before ++ numbered_line words c.from.result k) c.count_of_number.ensures
    ∙ ap (λ (k : ℕ). before ++ numbered_line words k (count_at c.args.counts.now n)) c.from.ensures)

pub returns : goal.returns
unfolding counts_text all_numbers
returns c =
    let end : c.loop-number.number ≡ 4096 = omega (arith, c.loop-number.auto.number-end, c.loop-number-test.false) in
    c.loop-number.invariant
    ∙ ap (λ (k : ℕ). c.args.lines.now.items ++ flat_map (λ n. numbered_line c.args.words.now n (count_at c.args.counts.now n)) (range_with_len 0 k)) end
