use Rattle.std.proofs.Common.{◌≡◌, ◌++◌, ℕ, List, take, sym, ap, ◌∙◌, arith}
use Rattle.std.specs.Prelude.{flat_map, codes}
use Rattle.rtk_survey.specs.Contents.{count_at}
use Rattle.rtk_survey.specs.SummaryText.{numbered_line, untaken_numbers}
use Rattle.rtk_survey.specs.Steps.Tables.{untaken_text}
use Rattle.rtk_survey.proofs.ListLemmas.{put-taken}
use Rattle.rtk_survey.proofs.lines.put_untaken.Goals as goal

pub loop-number-preserved : goal.loop-number-preserved
loop-number-preserved c =
    let others = c.args.others.now in
    let lines : List ℕ = c.loop-number.lines.items in
    let words : List ℕ = codes "untaken GPS " in
    put-taken (λ n. numbered_line (codes "untaken GPS ") n (count_at others n)) untaken_numbers c.loop-number.number-index 0
    c.args.lines.now.items c.loop-number.lines.items c.put_numbered.new.lines.items c.loop-number-test.true c.loop-number.invariant
    (c.in_ok-put_numbered.ensures
    ∙ ap (λ (count : ℕ). lines ++ numbered_line words c.from.result count) (c.count_of_number.ensures ∙ ap (λ (n : ℕ). count_at others n) (sym c.from.ensures))
    ∙ ap (λ (n : ℕ). lines ++ numbered_line words n (count_at others n)) c.from.ensures)

pub returns : goal.returns
unfolding untaken_text
returns c =
    let end : c.loop-number.number-index ≡ 6 = omega (arith, c.loop-number.auto.number-index-end, c.loop-number-test.false) in
    c.loop-number.invariant
    ∙ ap (λ (k : ℕ). c.args.lines.now.items ++ flat_map (λ n. numbered_line (codes "untaken GPS ") n (count_at c.args.others.now n)) (take k untaken_numbers)) end
