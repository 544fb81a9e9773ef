-- The part of a file that is written once some of its epochs are closed.
use Rattle.std.specs.Prelude.{ℕ, List, [], ◌∷◌, ◌++◌}
use Rattle.rtk_obs.specs.declared.signal_cells.SignalEntry.{SignalEntry}
use Rattle.rtk_collect.specs.EpochSet.{EpochSetView}
use Rattle.rtk_rinex.specs.Header.{PositionView}
use Rattle.rtk_convert.specs.File.{records, header_of}
use Rattle.rtk_setup.specs.Setup.{SetupView}

-- a text; nothing if the other text is empty
abbrev pub unless_empty : List ℕ → List ℕ → List ℕ
unless_empty [] text = []
unless_empty (x ∷ xs) text = text

-- the part of the file of all epochs that is written while only these are closed: nothing until a
-- closed epoch has a record; then the header of all epochs and the records of the closed ones
abbrev pub so_far : SetupView → PositionView → List (EpochSetView SignalEntry) → List (EpochSetView SignalEntry) → List ℕ
so_far s site all_epochs closed =
    unless_empty (records s.head.doppler s.head.listed closed) (header_of s site all_epochs ++ records s.head.doppler s.head.listed closed)
