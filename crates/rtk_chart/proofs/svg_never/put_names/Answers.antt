use Rattle.std.proofs.Common.{◌≡◌, ◌++◌, ℕ, ap, ◌∙◌, arith}
use Rattle.std.specs.Prelude.{flat_map}
use Rattle.std.specs.List.{range_with_len}
use Rattle.rtk_chart.specs.SvgPicture.{never_name}
use Rattle.rtk_chart.proofs.ListLemmas.{put-more}
use Rattle.rtk_chart.proofs.svg_never.put_names.Goals as goal

pub loop-place-preserved : goal.loop-place-preserved
loop-place-preserved c =
    put-more (never_name c.args.names c.args.bins.now c.args.at) 0 c.loop-place.place c.loop-place.place c.args.text.now.items c.loop-place.text.items c.put_name.new.text.items
    (omega arith) c.loop-place.invariant c.in_ok-put_name.ensures

pub returns : goal.returns
returns c =
    let end : c.loop-place.place ≡ 32 = omega (arith, c.loop-place.auto.place-end, c.loop-place-test.false) in
    c.loop-place.invariant ∙ ap (λ (k : ℕ). c.args.text.now.items ++ flat_map (never_name c.args.names c.args.bins.now c.args.at) (range_with_len 0 k)) end
