use Rattle.std.proofs.Common.{◌≡◌, take}
use Rattle.rtk_rinex.specs.MixedHeader.{types_text}
use Rattle.rtk_rinex.proofs.mixed_header_text.types_text.Given as goal

abbrev pub invariant-loop-code : goal.invariant-loop-code
invariant-loop-code l = l.text.items ≡ types_text l.doppler (take l.code-index l.codes)
