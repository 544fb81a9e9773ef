use Rattle.std.proofs.Common.{refl}
use Rattle.rtk_compare.proofs.track.Track.none.Goals as goal

pub returns : goal.returns
returns c = record { had_phase = refl; fills_gap = refl; rolls = refl }
