use Rattle.std.proofs.Common.{arith}
use Rattle.std.proofs.lemmas.Int.{ints}
use Rattle.rtk_compare.specs.Steps.Tracks.{pair}
use Rattle.rtk_compare.proofs.TrackLemmas.{noted}
use Rattle.rtk_compare.proofs.track.Track.note.Goals as goal

pub returns : goal.returns
returns c = λ earlier is held.
    noted c.args.self.now earlier (pair c.args.old.now c.args.new.now) c.is_some-has_old.result c.is_some-has_new.result _ c.args.held is c.is_some-has_old.ensures c.is_some-has_new.ensures held (omega (arith, ints))
