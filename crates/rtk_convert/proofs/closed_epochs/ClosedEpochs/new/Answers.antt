use Rattle.std.proofs.Common.{Option, refl, sym, subst}
use Rattle.rtk_obs.specs.declared.track.Track.{Track}
use Rattle.rtk_obs.specs.Tracks.{IsLater}
use Rattle.rtk_convert.specs.File.{first_time, record_count}
use Rattle.rtk_convert.proofs.closed_epochs.ClosedEpochs.new.Goals as goal

pub returns-clause-follows : goal.returns-clause-follows
unfolding first_time record_count
returns-clause-follows g c = λ doppler listed. record { phases = λ s k hs. c.in_ok-new_phases.ensures s k; is_header_out = refl; count = refl }

pub returns-clause-below : goal.returns-clause-below
returns-clause-below g c = λ epoch s k hs. subst (λ (o : Option Track). IsLater o epoch) (sym (c.in_ok-new_phases.ensures s k)) tt
