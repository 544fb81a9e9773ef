use Rattle.std.proofs.Common.{◌≡◌, ◌++◌, map, length}
use Rattle.rtk_cli.specs.Steps.Parts.{marked_parts}
use Rattle.rtk_cli.specs.Steps.AnyCodeList.{code_word}
use Rattle.rtk_cli.proofs.code_words.any_codes_said.Given as goal

-- the words so far are those of the codes
abbrev pub invariant-loop-code : goal.invariant-loop-code
invariant-loop-code l = marked_parts 44 l.fn.text ≡ map code_word l.codes.items ++ marked_parts 44 l.rest

abbrev pub decreases-loop-code : goal.decreases-loop-code
decreases-loop-code l = length l.rest
