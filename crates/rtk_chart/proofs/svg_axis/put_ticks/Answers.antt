use Rattle.std.proofs.Common.{◌≡◌, ◌++◌, ◌+◌, ℕ, List, Option, ap, ◌∙◌, arith}
use Rattle.std.specs.Prelude.{flat_map}
use Rattle.std.specs.List.{range_with_len}
use Rattle.rtk_chart.specs.SvgPath.{edge_of}
use Rattle.rtk_chart.specs.SvgPicture.{tick_text, ticks_text}
use Rattle.rtk_chart.specs.Ticks.{tick_at, tick_step}
use Rattle.rtk_chart.proofs.ListLemmas.{put-more}
use Rattle.rtk_chart.proofs.svg_axis.put_ticks.Goals as goal

pub loop-bin-preserved : goal.loop-bin-preserved
loop-bin-preserved c =
    let s = c.args.scale.now in
    let step = c.tick_step-step.result in
    put-more (λ k. tick_text c.args.top step (110 + edge_of s.bins k) (tick_at s step k)) 0 c.loop-bin.bin c.loop-bin.bin
    c.args.text.now.items c.loop-bin.text.items c.put_tick.new.text.items (omega arith) c.loop-bin.invariant
    (c.in_ok-put_tick.ensures ∙ ap (λ (x : ℕ). c.loop-bin.text.items ++ tick_text c.args.top step (110 + x) c.tick_at-tick.result) c.edge.ensures.value
    ∙ ap (λ (tick : Option ℕ). c.loop-bin.text.items ++ tick_text c.args.top step (110 + edge_of s.bins c.loop-bin.bin) tick) c.tick_at-tick.ensures)

pub returns : goal.returns
unfolding ticks_text
returns c =
    let s = c.args.scale.now in
    let end : c.loop-bin.bin ≡ s.bins = omega (arith, c.loop-bin.auto.bin-end, c.loop-bin-test.false) in
    let ticks : ℕ → ℕ → List ℕ = λ step n. c.args.text.now.items ++ flat_map (λ k. tick_text c.args.top step (110 + edge_of s.bins k) (tick_at s step k)) (range_with_len 0 n) in
    c.loop-bin.invariant ∙ ap (ticks c.tick_step-step.result) end
    ∙ ap (λ (step : ℕ). ticks step s.bins) (c.tick_step-step.ensures.value ∙ ap tick_step c.least_step.ensures.value)
