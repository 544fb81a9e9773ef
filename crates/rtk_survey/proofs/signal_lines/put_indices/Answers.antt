use Rattle.std.proofs.Common.{◌≡◌, ◌-◌, ◌+◌, ◌≤◌, ◌++◌, ℕ, List, ap, ◌∙◌, arith}
use Rattle.std.specs.Prelude.{flat_map}
use Rattle.std.specs.List.{range_with_len}
use Rattle.rtk_survey.specs.BitMarks.{is_marked_in}
use Rattle.rtk_survey.specs.SummaryText.{listed_index, indices_text}
use Rattle.rtk_survey.proofs.ListLemmas.{put-more}
use Rattle.rtk_survey.proofs.signal_lines.put_indices.Goals as goal

pub loop-index-preserved : goal.loop-index-preserved
loop-index-preserved c =
    let lines : ℕ → List ℕ = listed_index (λ n. is_marked_in c.args.marks.now.words n) in
    let from : 33 ≤ c.loop-index.index = c.loop-index.auto.index in
    let at : c.loop-index.index ≡ 33 + (c.loop-index.index - 33) = omega (arith, from) in
    let next : (c.loop-index.index - 33) + 1 ≡ (c.loop-index.index + 1) - 33 = omega (arith, from) in
    put-more lines 33 (c.loop-index.index - 33) c.loop-index.index c.args.text.now.items c.loop-index.text.items c.put_index.new.text.items
    at c.loop-index.invariant c.in_ok-put_index.ensures
    ∙ ap (λ (k : ℕ). c.args.text.now.items ++ flat_map lines (range_with_len 33 k)) next

pub returns : goal.returns
unfolding indices_text
returns c =
    let end : c.loop-index.index - 33 ≡ 189 = omega (arith, c.loop-index-test.false) in
    c.loop-index.invariant ∙ ap (λ (k : ℕ). c.args.text.now.items ++ flat_map (listed_index (λ n. is_marked_in c.args.marks.now.words n)) (range_with_len 33 k)) end
