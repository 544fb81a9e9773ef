use Rattle.std.proofs.Common.{◌≡◌, ◌++◌}
use Rattle.std.specs.Prelude.{flat_map}
use Rattle.std.specs.List.{range_with_len}
use Rattle.rtk_chart.specs.SvgPicture.{band_if_drawn}
use Rattle.rtk_chart.proofs.svg_bands.put_bands.Given as goal

abbrev pub invariant-loop-place : goal.invariant-loop-place
invariant-loop-place l = l.text.items ≡ l.fn.text.items ++ flat_map (band_if_drawn l.names l.spacing l.codes l.bins l.outages) (range_with_len 0 l.place)
