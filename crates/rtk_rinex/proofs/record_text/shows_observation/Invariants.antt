use Rattle.std.proofs.Common.{◌≡◌, false, take}
use Rattle.std.specs.List.{list_any}
use Rattle.rtk_rinex.specs.Record.{has_observation}
use Rattle.rtk_rinex.proofs.record_text.shows_observation.Given as goal

abbrev pub invariant-loop-observed : goal.invariant-loop-observed
invariant-loop-observed l = list_any has_observation (take l.observed-index l.codes) ≡ false
