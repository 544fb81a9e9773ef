use Rattle.std.proofs.Common.{◌≡◌, List, Option, None, sym, subst}
use Rattle.rtk_obs.specs.declared.track.Track.{Track}
use Rattle.rtk_obs.specs.AnyCode.{signal_place}
use Rattle.rtk_convert.specs.LastPhases.{track_at}
use Rattle.rtk_convert.proofs.PhaseBlockLemmas.{no-phases}
use Rattle.rtk_convert.proofs.file_entry.CellEntryFileEntry.new_phases.Goals as goal

pub returns : goal.returns
returns c = λ satellite code.
    subst (λ (t : List (Option Track)). track_at t satellite code ≡ None) (sym c.in_ok-phases.ensures.ok)
    (no-phases c.new-empty.result c.new-empty.ensures.empty (signal_place satellite code))
