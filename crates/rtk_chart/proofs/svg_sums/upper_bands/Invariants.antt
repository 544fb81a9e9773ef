use Rattle.std.proofs.Common.{◌≡◌, map, take}
use Rattle.rtk_chart.specs.SvgSystems.{upper_of}
use Rattle.rtk_chart.proofs.svg_sums.upper_bands.Given as goal

abbrev pub invariant-loop-code : goal.invariant-loop-code
invariant-loop-code l = l.bands.items ≡ map upper_of (take l.code-index l.codes)
