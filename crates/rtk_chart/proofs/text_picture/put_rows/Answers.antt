use Rattle.std.proofs.Common.{◌≡◌, ◌++◌, ℕ, ap, ◌∙◌, arith}
use Rattle.std.specs.Prelude.{flat_map}
use Rattle.std.specs.List.{range_with_len}
use Rattle.rtk_chart.specs.TextPicture.{satellite_rows, row_if_drawn}
use Rattle.rtk_chart.proofs.ListLemmas.{put-more}
use Rattle.rtk_chart.proofs.text_picture.put_rows.Goals as goal

pub loop-place-preserved : goal.loop-place-preserved
loop-place-preserved c =
    put-more (row_if_drawn c.args.names c.args.bins.now c.args.outages.now) 0 c.loop-place.place c.loop-place.place c.args.text.now.items c.loop-place.text.items c.put_row_if_drawn.new.text.items
    (omega arith) c.loop-place.invariant c.in_ok-put_row_if_drawn.ensures

pub returns : goal.returns
unfolding satellite_rows
returns c =
    let end : c.loop-place.place ≡ 32 = omega (arith, c.loop-place.auto.place-end, c.loop-place-test.false) in
    c.loop-place.invariant ∙ ap (λ (k : ℕ). c.args.text.now.items ++ flat_map (row_if_drawn c.args.names c.args.bins.now c.args.outages.now) (range_with_len 0 k)) end
