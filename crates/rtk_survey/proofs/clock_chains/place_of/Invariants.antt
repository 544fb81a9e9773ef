use Rattle.std.proofs.Common.{◌≡◌, drop}
use Rattle.rtk_survey.specs.Chains.{offset_place}
use Rattle.rtk_survey.proofs.clock_chains.place_of.Given as goal

abbrev pub invariant-loop-at : goal.invariant-loop-at
invariant-loop-at l = offset_place l.at l.ahead (drop l.at l.list) ≡ offset_place 0 l.ahead l.list
