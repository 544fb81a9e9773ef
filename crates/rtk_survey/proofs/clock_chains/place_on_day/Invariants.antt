use Rattle.std.proofs.Common.{◌≡◌, drop}
use Rattle.rtk_survey.specs.Chains.{day_place}
use Rattle.rtk_survey.proofs.clock_chains.place_on_day.Given as goal

abbrev pub invariant-loop-at : goal.invariant-loop-at
invariant-loop-at l = day_place l.at l.day l.ahead (drop l.at l.list) ≡ day_place 0 l.day l.ahead l.list
