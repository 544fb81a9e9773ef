-- What a window answers to a message, with its cells as signals of any system.
use Rattle.std.specs.Prelude.{ℕ, ◌&&◌, nat_le, List, ◌∷◌, if◌then◌else◌}
use Rattle.rtk_obs.specs.declared.signal_cells.SignalEntry.{SignalEntry}
use Rattle.rtk_obs.specs.AnyCode.{code_of_gps}
use Rattle.rtk_collect.specs.declared.conflicts.AnySatelliteCode.{AnySatelliteCode}
use Rattle.rtk_collect.specs.declared.conflicts.SatelliteCode.{SatelliteCode}
use Rattle.rtk_collect.specs.declared.outcome.Outcome.{Outcome}
use Rattle.rtk_collect.specs.Answer.{IsRightAnswer}
use Rattle.rtk_collect.specs.Arrival.{Arrival}
use Rattle.rtk_collect.specs.Collector.{CollectorView, RepresentsArrivals}
use Rattle.rtk_collect.specs.Signals.{signals}
use Rattle.rtk_convert.specs.Conversion.{HoldsKept}
use Rattle.rtk_setup.specs.Setup.{SetupView, cells_by}

-- the index of a satellite, or the first one for a number that no satellite has
abbrev pub index_or_first : ℕ → ℕ
index_or_first n = if nat_le 1 n && nat_le n 221 then n else 1

-- a satellite and code of GPS as those of any system
abbrev pub name_of_gps : SatelliteCode → AnySatelliteCode
name_of_gps s = record { satellite = index_or_first s.satellite; code = code_of_gps s.code }

-- after messages that the setup takes the right answer is given to one more, and the window represents it too
abbrev pub AnswersMessage : SetupView → CollectorView SignalEntry → Arrival → Outcome SignalEntry AnySatelliteCode → List AnySatelliteCode
    → CollectorView SignalEntry → Type 0
AnswersMessage s old a offer listed new =
    (before : List Arrival) → HoldsKept s old before
    → IsRightAnswer signals (cells_by s) old.places a before offer listed × RepresentsArrivals signals (cells_by s) new (a ∷ before)
