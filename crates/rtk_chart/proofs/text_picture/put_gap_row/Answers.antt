use Rattle.std.proofs.Common.{◌≡◌, ◌++◌, ◌∷◌, [], ℕ, Bool, false, length, get_or, append_assoc, ap, ◌∙◌, arith}
use Rattle.rtk_chart.specs.TextPicture.{gap_mark, gap_mark_at, gap_row}
use Rattle.rtk_chart.proofs.ListLemmas.{push-more}
use Rattle.rtk_chart.proofs.text_picture.put_gap_row.Goals as goal

pub returns : goal.returns
unfolding gap_row
returns c =
    let end : c.loop-bin.bin ≡ length c.args.gaps.now = omega (arith, c.loop-bin.auto.bin-end, c.loop-bin-test.false) in
    rw (c.in_ok-extend_from_slice-2.ensures.items, c.loop-bin.invariant, c.in_ok-extend_from_slice.ensures.items, end) (simp append_assoc)

pub loop-bin-preserved : goal.loop-bin-preserved
loop-bin-preserved c =
    let gaps = c.args.gaps.now in
    let bin : ℕ = c.loop-bin.bin in
    push-more (gap_mark_at c.args.recorded.now gaps) bin c.extend_from_slice.new.self.items c.loop-bin.text.items c.push.new.self.items
    c.loop-bin.invariant
    (c.in_ok-push.ensures.items ∙ ap (λ (x : ℕ). c.loop-bin.text.items ++ x ∷ [])
    (c.gap_mark.ensures ∙ ap (λ (b : Bool). gap_mark b (get_or gaps bin false)) c.has_record-has_record.ensures))
