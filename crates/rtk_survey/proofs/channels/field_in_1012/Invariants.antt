use Rattle.std.proofs.Common.{◌≡◌, drop}
use Rattle.rtk_survey.specs.Channels.{field_in_1012}
use Rattle.rtk_survey.proofs.channels.field_in_1012.Given as goal

abbrev pub invariant-loop-satellite : goal.invariant-loop-satellite
invariant-loop-satellite l = field_in_1012 l.slot (drop l.satellite-index l.satellites) ≡ field_in_1012 l.slot l.satellites
