use Rattle.rtk_obs.proofs.PublicLaws.{reading_is, reading-reads}
use Rattle.rtk_obs.proofs.laws.one_reading.Goals as goal

pub returns-clause-one : goal.returns-clause-one
returns-clause-one c = reading_is

pub returns-clause-reads : goal.returns-clause-reads
returns-clause-reads c = reading-reads
