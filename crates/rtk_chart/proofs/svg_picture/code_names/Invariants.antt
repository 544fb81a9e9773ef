use Rattle.std.proofs.Common.{◌≡◌, map, take}
use Rattle.rtk_obs.specs.Code.{name_of}
use Rattle.rtk_chart.proofs.svg_picture.code_names.Given as goal

abbrev pub invariant-loop-code : goal.invariant-loop-code
invariant-loop-code l = l.names.items ≡ map name_of (take l.code-index l.codes)
