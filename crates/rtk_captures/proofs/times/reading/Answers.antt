use Rattle.rtk_obs.proofs.PublicLaws.{reading_is}
use Rattle.rtk_captures.proofs.times.reading.Goals as goal

pub returns : goal.returns
returns c = reading_is c.args.moment c.civil.result c.civil.ensures.reading
