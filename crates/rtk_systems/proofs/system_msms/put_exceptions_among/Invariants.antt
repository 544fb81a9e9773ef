use Rattle.std.proofs.Common.{◌≡◌, ◌++◌, take}
use Rattle.std.specs.Prelude.{flat_map}
use Rattle.rtk_systems.specs.SystemMsms.{exception_text_of}
use Rattle.rtk_systems.proofs.system_msms.put_exceptions_among.Given as goal

abbrev pub invariant-loop-system : goal.invariant-loop-system
invariant-loop-system l = l.line.items ≡ l.fn.line.items ++ flat_map (exception_text_of l.first l.kinds) (take l.system-index l.systems)
