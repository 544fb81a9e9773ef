use Rattle.std.proofs.Common.{◌≡◌, ◌++◌, drop}
use Rattle.rtk_plan.specs.SaidCommand.{code_names}
use Rattle.rtk_plan.proofs.said_command.put_codes.Given as goal

-- the names so far and those of the codes that are left are the names of all
abbrev pub invariant-loop-code : goal.invariant-loop-code
invariant-loop-code l = l.line.items ++ code_names l.separator (drop l.code-index l.codes) ≡ l.fn.line.items ++ code_names 32 l.codes
