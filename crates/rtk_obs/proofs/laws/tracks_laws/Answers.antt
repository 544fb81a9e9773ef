use Rattle.rtk_obs.proofs.TracksLemmas.{last_is_greatest, later_than_steps, later_after_step, all_later_step}
use Rattle.rtk_obs.proofs.laws.tracks_laws.Goals as goal

pub returns : goal.returns
returns c = record { greatest = last_is_greatest; later = later_than_steps; after = later_after_step; all = all_later_step }
