use Rattle.std.proofs.Common.{take}
use Rattle.rtk_compare.specs.Headers.{code_lines}
use Rattle.rtk_compare.specs.Differences.{Adds}
use Rattle.rtk_compare.proofs.headers.compare_codes.Given as goal

abbrev pub invariant-loop-code : goal.invariant-loop-code
invariant-loop-code l = Adds l.fn.findings l.findings (code_lines (take l.code-index l.olds) l.news)
