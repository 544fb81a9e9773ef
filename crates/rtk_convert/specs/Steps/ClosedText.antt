-- The part of a file that is written, from the closed epochs alone, and what one more closed epoch
-- adds.
use Rattle.std.specs.Prelude.{ℕ, Bool, true, false, List, [], ◌∷◌, ◌++◌, Option, None, Some, is_some}
use Rattle.rtk_obs.specs.declared.signal_cells.SignalEntry.{SignalEntry}
use Rattle.rtk_collect.specs.EpochSet.{EpochSetView}
use Rattle.rtk_rinex.specs.Header.{PositionView}
use Rattle.rtk_convert.specs.File.{records, first_time, record_of, header_at}
use Rattle.rtk_setup.specs.Setup.{SetupView}

-- a header with this first time, and then a text; nothing if there is no first time
abbrev pub with_header : SetupView → PositionView → Option ℕ → List ℕ → List ℕ
with_header s site None text = []
with_header s site (Some first) text = header_at s site first ++ text

-- the part of the file that is written once these epochs are closed
abbrev pub closed_text : SetupView → PositionView → List (EpochSetView SignalEntry) → List ℕ
closed_text s site closed = with_header s site (first_time s.head.doppler s.head.listed closed) (records s.head.doppler s.head.listed closed)

-- the header before a first record, unless a header is written already
abbrev pub header_before : SetupView → PositionView → ℕ → Bool → List ℕ
header_before s site epoch true = []
header_before s site epoch false = header_at s site epoch

-- what an epoch adds when it closes: its record, and before it the header if that is not written
-- yet; nothing if it has no record
abbrev pub closing_text : SetupView → PositionView → ℕ → Bool → List ℕ → List ℕ
closing_text s site epoch is_header_out [] = []
closing_text s site epoch is_header_out (x ∷ text) = header_before s site epoch is_header_out ++ x ∷ text

-- what the closing of an epoch adds, given the epochs below it
abbrev pub closing : SetupView → PositionView → EpochSetView SignalEntry → List (EpochSetView SignalEntry) → List ℕ
closing s site e below = closing_text s site e.epoch (is_some (first_time s.head.doppler s.head.listed below)) (record_of s.head.doppler s.head.listed e below)

abbrev pub is_any : List ℕ → Bool
is_any [] = false
is_any (x ∷ text) = true
