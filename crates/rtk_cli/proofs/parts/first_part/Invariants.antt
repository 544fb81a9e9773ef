use Rattle.std.proofs.Common.{take}
use Rattle.rtk_cli.proofs.PartLemmas.{HasNoMark}
use Rattle.rtk_cli.proofs.parts.first_part.Given as goal

-- no mark stands before the place
abbrev pub invariant-loop-place : goal.invariant-loop-place
invariant-loop-place l = HasNoMark l.mark (take l.place l.text)
