use Rattle.rtk_survey.proofs.StationClockLemmas.{nothing-followed}
use Rattle.rtk_survey.proofs.station_clocks.no_clocks_followed.Goals as goal

pub returns : goal.returns
returns c = nothing-followed c.new.result c.new.ensures.empty
