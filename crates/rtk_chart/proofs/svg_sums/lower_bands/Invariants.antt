use Rattle.std.proofs.Common.{◌≡◌, map, take}
use Rattle.rtk_chart.specs.SvgSystems.{lower_of}
use Rattle.rtk_chart.proofs.svg_sums.lower_bands.Given as goal

abbrev pub invariant-loop-code : goal.invariant-loop-code
invariant-loop-code l = l.bands.items ≡ map lower_of (take l.code-index l.codes)
