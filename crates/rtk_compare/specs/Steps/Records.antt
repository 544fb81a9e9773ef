-- The records of two files side by side.
use Rattle.std.specs.Prelude.{◌≡◌, ℕ, true, List, [], ◌∷◌, Option, None, Some}
use Rattle.rtk_rinex.specs.Record.{EpochTableView}
use Rattle.rtk_rinex.specs.MixedRecords.{MixedRowsView}
use Rattle.rtk_rinex.specs.declared.epoch_table.SatelliteRow.{SatelliteRow}
use Rattle.rtk_compare.specs.declared.difference.Class.TheVariants.{Lost}
use Rattle.rtk_compare.specs.declared.difference.What.TheVariants as what
use Rattle.rtk_compare.specs.declared.difference.Difference.{Difference}
use Rattle.rtk_compare.specs.declared.findings.Findings.{Findings}
use Rattle.rtk_compare.specs.declared.shared_codes.SharedCode.{SharedCode}
use Rattle.rtk_compare.specs.declared.track.Track.{Track}
use Rattle.rtk_compare.specs.Places.{at_epoch}
use Rattle.rtk_compare.specs.Pairs.{Pair, rows_beside}
use Rattle.rtk_compare.specs.Cells.{told_if}
use Rattle.rtk_compare.specs.Records.{epoch_lines}
use Rattle.rtk_compare.specs.Differences.{Adds}
use Rattle.rtk_compare.specs.Steps.Readers.{IsRecordIn}
use Rattle.rtk_compare.specs.Steps.Tracks.{AreTracksOf}

-- the record of this epoch, or none of an epoch without rows
abbrev pub IsSideOf : Option MixedRowsView → EpochTableView → Type 0
IsSideOf None e = e.rows ≡ []
IsSideOf (Some rows) e = IsRecordIn (Some rows) e

-- the moment of an epoch that both files have
abbrev pub moment_of_both : Option MixedRowsView → Option MixedRowsView → Option ℕ
moment_of_both None new = None
moment_of_both (Some old) None = None
moment_of_both (Some old) (Some new) = Some old.time

-- an epoch that the new file has not
abbrev pub gone_epoch : Option MixedRowsView → Option MixedRowsView → List Difference
gone_epoch None new = []
gone_epoch (Some old) None = told_if true Lost what.Epoch (at_epoch old.time)
gone_epoch (Some old) (Some new) = []

-- epochs side by side were compared: their differences were added, and their rows are remembered
pub record ComparesEpoch (codes : ℕ → List SharedCode) (earlier : List (List (Pair SatelliteRow))) (p : Pair EpochTableView) (before after : Findings) (noted : List Track) : Type 0 where
  pub lines : Adds before after (epoch_lines codes earlier p)
  pub tracks : AreTracksOf noted codes (rows_beside p ∷ earlier)
