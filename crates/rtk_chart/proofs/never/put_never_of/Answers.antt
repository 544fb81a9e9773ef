use Rattle.std.proofs.Common.{◌≡◌, ◌++◌, ℕ, List, ap, ◌∙◌, arith}
use Rattle.std.specs.Prelude.{flat_map}
use Rattle.std.specs.List.{range_with_len}
use Rattle.rtk_chart.specs.TextPicture.{line_end, never_before, never_part, never_lines}
use Rattle.rtk_chart.proofs.ListLemmas.{put-more, and-then}
use Rattle.rtk_chart.proofs.never.put_never_of.Goals as goal

pub loop-place-preserved : goal.loop-place-preserved
loop-place-preserved c =
    put-more (never_part c.args.names c.args.bins.now c.args.title.now c.args.at c.args.in_line) 0 c.loop-place.place c.loop-place.place c.args.text.now.items c.loop-place.text.items c.put_part.new.text.items
    (omega arith) c.loop-place.invariant c.in_ok-put_part.ensures

pub returns : goal.returns
unfolding never_lines
returns c =
    let l0 : List ℕ = c.args.text.now.items in
    let l1 : List ℕ = c.loop-place.text.items in
    let part : ℕ → List ℕ = never_part c.args.names c.args.bins.now c.args.title.now c.args.at c.args.in_line in
    let end : c.loop-place.place ≡ 32 = omega (arith, c.loop-place.auto.place-end, c.loop-place-test.false) in
    and-then l0 l1 c.put_line_end.new.text.items (flat_map part (range_with_len 0 32)) (line_end (never_before c.args.bins.now c.args.at 32))
    (c.loop-place.invariant ∙ ap (λ (k : ℕ). l0 ++ flat_map part (range_with_len 0 k)) end)
    (c.in_ok-put_line_end.ensures ∙ ap (λ (n : ℕ). l1 ++ line_end n) c.never_before.ensures)
