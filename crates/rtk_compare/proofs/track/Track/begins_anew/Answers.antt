use Rattle.rtk_compare.specs.Steps.Tracks.{pair}
use Rattle.rtk_compare.proofs.TrackLemmas.{anew-is}
use Rattle.rtk_compare.proofs.track.Track.begins_anew.Goals as goal

pub returns : goal.returns
returns c = λ earlier is. anew-is c.args.self.now earlier (pair c.args.old.now c.args.new.now) _ is c.is_some-has_old.ensures
