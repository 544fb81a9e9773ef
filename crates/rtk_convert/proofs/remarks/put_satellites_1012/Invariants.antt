use Rattle.std.proofs.Common.{take}
use Rattle.rtk_convert.specs.Steps.Remarks.{PutsSatellites1012}
use Rattle.rtk_convert.proofs.remarks.put_satellites_1012.Given as goal

abbrev pub invariant-loop-satellite : goal.invariant-loop-satellite
invariant-loop-satellite l = PutsSatellites1012 l.channels (take l.satellite-index l.satellites) l.fn.remarks l.remarks
