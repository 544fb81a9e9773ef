use Rattle.std.proofs.Common.{◌≡◌, ◌++◌, take}
use Rattle.std.specs.Prelude.{flat_map}
use Rattle.rtk_plan.specs.SaidCommand.{name_after_blank}
use Rattle.rtk_plan.proofs.said_command.put_names.Given as goal

abbrev pub invariant-loop-name : goal.invariant-loop-name
invariant-loop-name l = l.line.items ≡ l.fn.line.items ++ flat_map name_after_blank (take l.name-index l.names)
