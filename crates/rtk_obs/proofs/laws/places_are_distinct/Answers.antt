use Rattle.rtk_obs.proofs.TracksLemmas.{place_bound, place_inside, same_signal}
use Rattle.rtk_obs.proofs.laws.places_are_distinct.Goals as goal

pub returns : goal.returns
returns c = record { code_bound = place_bound; signal_bound = place_inside; distinct = same_signal }
