use Rattle.std.proofs.Common.{◌≡◌, take}
use Rattle.rtk_chart.specs.Means.{bands_of}
use Rattle.rtk_chart.proofs.strengths.bands_of.Given as goal

abbrev pub invariant-loop-code : goal.invariant-loop-code
invariant-loop-code l = l.bands.items ≡ bands_of (take l.code-index l.codes)
