use Rattle.std.proofs.Common.{◌≡◌, ◌+◌, ◌++◌, ◌∷◌, [], ℕ, List, Bool, ap, ◌∙◌, arith}
use Rattle.std.specs.Prelude.{flat_map, codes}
use Rattle.std.specs.List.{range_with_len}
use Rattle.rtk_chart.specs.SvgPicture.{level_path, level_paths, runs_layer}
use Rattle.rtk_chart.proofs.ListLemmas.{put-more}
use Rattle.rtk_chart.proofs.svg_layers.put_levels.Goals as goal

pub loop-level-preserved : goal.loop-level-preserved
loop-level-preserved c =
    put-more (level_path c.args.bins.now c.args.place c.args.code) 0 c.loop-level.level c.loop-level.level c.args.text.now.items c.loop-level.text.items c.put_runs_layer.new.text.items
    (omega arith) c.loop-level.invariant
    (c.in_ok-put_runs_layer.ensures
    ∙ ap (λ (bs : List Bool). c.loop-level.text.items ++ runs_layer (108 ∷ (48 + c.loop-level.level) ∷ []) (codes " 10") [] bs) (c.as_slice.ensures.value ∙ c.in_ok-flags.ensures))

pub returns : goal.returns
unfolding level_paths
returns c =
    let end : c.loop-level.level ≡ 10 = omega (arith, c.loop-level-test.false, c.loop-level.auto.level-end) in
    c.loop-level.invariant ∙ ap (λ (k : ℕ). c.args.text.now.items ++ flat_map (level_path c.args.bins.now c.args.place c.args.code) (range_with_len 0 k)) end
