use Rattle.std.proofs.Common.{◌≡◌, append_assoc, arith}
use Rattle.rtk_chart.specs.TextPicture.{label_row, label_part}
use Rattle.rtk_chart.proofs.ListLemmas.{put-more}
use Rattle.rtk_chart.proofs.text_time.put_labels.Goals as goal

pub loop-bin-preserved : goal.loop-bin-preserved
loop-bin-preserved c =
    put-more (label_part c.args.scale.now c.args.width c.args.step) 0 c.loop-bin.bin c.loop-bin.bin c.extend_from_slice.new.self.items c.loop-bin.text.items c.put_label_part.new.text.items
    (omega arith) c.loop-bin.invariant c.in_ok-put_label_part.ensures

pub returns : goal.returns
unfolding label_row
returns c =
    let end : c.loop-bin.bin ≡ c.args.scale.now.bins = omega (arith, c.loop-bin.auto.bin-end, c.loop-bin-test.false) in
    rw (c.in_ok-push.ensures.items, c.loop-bin.invariant, c.in_ok-extend_from_slice.ensures.items, end) (simp append_assoc)
