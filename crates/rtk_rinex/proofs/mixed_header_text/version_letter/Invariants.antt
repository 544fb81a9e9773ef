use Rattle.std.proofs.Common.{◌≡◌, ◌==◌, take, true}
use Rattle.std.specs.List.{list_all}
use Rattle.rtk_rinex.specs.MixedHead.{letter}
use Rattle.rtk_rinex.proofs.mixed_header_text.version_letter.Given as goal

abbrev pub invariant-loop-code : goal.invariant-loop-code
invariant-loop-code l = list_all (λ d. letter d == l.letter) (take l.code-index l.listed) ≡ true
