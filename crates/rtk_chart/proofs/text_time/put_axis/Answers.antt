use Rattle.std.proofs.Common.{◌≡◌, ◌++◌, ◌∷◌, [], ℕ, append_assoc, ap, ◌∙◌, arith}
use Rattle.rtk_chart.specs.Ticks.{tick_at}
use Rattle.rtk_chart.specs.TextPicture.{axis_row, axis_mark}
use Rattle.rtk_chart.proofs.ListLemmas.{push-more}
use Rattle.rtk_chart.proofs.text_time.put_axis.Goals as goal

pub loop-bin-preserved : goal.loop-bin-preserved
loop-bin-preserved c =
    push-more (λ k. axis_mark (tick_at c.args.scale.now c.args.step k)) c.loop-bin.bin c.extend_from_slice.new.self.items c.loop-bin.text.items c.push.new.self.items
    c.loop-bin.invariant
    (c.in_ok-push.ensures.items ∙ ap (λ (x : ℕ). c.loop-bin.text.items ++ x ∷ []) (c.axis_mark.ensures ∙ ap axis_mark c.tick_at.ensures))

pub returns : goal.returns
unfolding axis_row
returns c =
    let end : c.loop-bin.bin ≡ c.args.scale.now.bins = omega (arith, c.loop-bin.auto.bin-end, c.loop-bin-test.false) in
    rw (c.in_ok-push-2.ensures.items, c.loop-bin.invariant, c.in_ok-extend_from_slice.ensures.items, end) (simp append_assoc)
