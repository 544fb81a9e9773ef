use Rattle.std.proofs.Common.{◌≡◌, ◌++◌, ℕ, List, ap, ◌∙◌, arith}
use Rattle.std.specs.Prelude.{flat_map}
use Rattle.std.specs.List.{range_with_len}
use Rattle.rtk_quality.specs.Never.{row_end, without_before, row_part, never_row}
use Rattle.rtk_quality.proofs.ListLemmas.{put-more, and-then}
use Rattle.rtk_quality.proofs.never.put_never_row.Goals as goal

pub loop-place-preserved : goal.loop-place-preserved
loop-place-preserved c = λ most interval es stand.
    put-more (row_part interval es c.args.code c.args.at) 0 c.loop-place.place c.loop-place.place c.args.text.now.items c.loop-place.text.items c.put_part.new.text.items
    (omega arith) (c.loop-place.invariant most interval es stand) (c.in_ok-put_part.ensures most interval es stand)

pub returns : goal.returns
unfolding never_row
returns c = λ most interval es stand.
    let l0 : List ℕ = c.args.text.now.items in
    let l1 : List ℕ = c.loop-place.text.items in
    let part : ℕ → List ℕ = row_part interval es c.args.code c.args.at in
    let end : c.loop-place.place ≡ most = omega (arith, c.loop-place.auto.place-end, c.loop-place-test.false, stand.size) in
    and-then l0 l1 c.put_row_end.new.text.items (flat_map part (range_with_len 0 most)) (row_end (without_before interval es c.args.at most))
    (c.loop-place.invariant most interval es stand ∙ ap (λ (k : ℕ). l0 ++ flat_map part (range_with_len 0 k)) end)
    (c.in_ok-put_row_end.ensures ∙ ap (λ (n : ℕ). l1 ++ row_end n) (c.without_before.ensures most interval es stand ∙ ap (λ (k : ℕ). without_before interval es c.args.at k) stand.size))
