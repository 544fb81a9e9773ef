use Rattle.std.proofs.Common.{None, refl, sym, subst, Option}
use Rattle.rtk_obs.specs.declared.track.Track.{Track}
use Rattle.rtk_obs.specs.Tracks.{IsBounded, place_of_signal}
use Rattle.rtk_obs.proofs.TracksLemmas.{get_or-replicate}
use Rattle.rtk_obs.proofs.tracks.Tracks.new.Goals as goal

pub invariant_of-result : goal.invariant_of-result
invariant_of-result c = record {
  count = refl;
  bounded = λ k. subst (λ (o : Option Track). IsBounded o) (sym (get_or-replicate 512 k None)) tt;
}

pub returns : goal.returns
returns c = record {
  represents = record {
    rising = λ s k h. tt;
    last = λ s k h. get_or-replicate 512 (place_of_signal s k) None;
  };
  empty = λ s k. get_or-replicate 512 (place_of_signal s k) None;
}
