use Rattle.std.proofs.Common.{◌≡◌, ◌++◌}
use Rattle.std.specs.Prelude.{flat_map}
use Rattle.std.specs.List.{range_with_len}
use Rattle.rtk_chart.specs.SvgPicture.{level_path}
use Rattle.rtk_chart.proofs.svg_layers.put_levels.Given as goal

abbrev pub invariant-loop-level : goal.invariant-loop-level
invariant-loop-level l = l.text.items ≡ l.fn.text.items ++ flat_map (level_path l.bins l.place l.code) (range_with_len 0 l.level)
