use Rattle.rtk_obs.proofs.ClockLemmas.{begun_by}
use Rattle.rtk_obs.proofs.glonass_time.GlonassTime.has_begun.Goals as goal

pub returns : goal.returns
returns c =
    begun_by c.args.near c.args.self c.args.leap_seconds c.leap_start.result c.ms.result c.date_with.result c.leap_start.ensures c.ms.ensures.value c.date_with.ensures
