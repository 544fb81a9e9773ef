use Rattle.std.proofs.Common.{take}
use Rattle.std.specs.List.{flat_map}
use Rattle.rtk_message.specs.Steps.FieldSteps.{PutsAll}
use Rattle.rtk_message.specs.Obs1012.{satellite_table}
use Rattle.rtk_message.proofs.obs1012.put_satellites.Given as goal

abbrev pub invariant-loop-satellite : goal.invariant-loop-satellite
invariant-loop-satellite l = PutsAll (flat_map satellite_table (take l.satellite-index l.satellites)) l.fn.writer l.writer
