use Rattle.std.proofs.Common.{◌≡◌, drop}
use Rattle.rtk_quality.specs.Falls.{means_of, largest_fall}
use Rattle.rtk_quality.proofs.FallLemmas.{largest_from}
use Rattle.rtk_quality.proofs.falls.largest_fall.Given as goal

abbrev pub invariant-loop-hour : goal.invariant-loop-hour
invariant-loop-hour l = largest_fall l.band l.hours ≡ largest_from l.before l.largest (means_of l.band (drop l.hour-index l.hours))
