use Rattle.std.proofs.Common.{arith, Some}
use Rattle.std.proofs.lemmas.Int.{ints}
use Rattle.rtk_obs.proofs.TracksLemmas.{places-set}
use Rattle.rtk_obs.proofs.tracks.Tracks.step_with.Goals as goal

pub invariant_of-self : goal.invariant_of-self
invariant_of-self g c =
    places-set c.self.inside.last c.place_of_signal-place.result (Some c.track_of.result) c.self.invariant c.place_of_signal-place.ensures.bound
    (c.track_of.ensures.bound (omega (arith, ints, c.digits_after-digits.ensures.bound)))
