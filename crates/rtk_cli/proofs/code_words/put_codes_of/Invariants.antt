use Rattle.std.proofs.Common.{◌≡◌, ◌++◌, take}
use Rattle.rtk_rinex.specs.MixedHeader.{codes_of}
use Rattle.rtk_cli.proofs.code_words.put_codes_of.Given as goal

abbrev pub invariant-loop-code : goal.invariant-loop-code
invariant-loop-code l = l.listed.items ≡ l.fn.listed.items ++ codes_of l.letter (take l.code-index l.codes)
