-- Laws of the numbers of a report: equal counts tell equal numbers, as far as a u64 holds them, and
-- `epochs` is the number of records.
use Rattle.std.specs.Prelude.{◌≡◌, ◌<◌, ◌^◌, ℕ, Bool, true, false, List, [], ◌∷◌, ◌++◌, length, flat_map, All}
use Rattle.std.specs.List.{count_by}
use Rattle.rtk_obs.specs.declared.any_code.AnyCode.{AnyCode}
use Rattle.rtk_obs.specs.declared.signal_cells.SignalEntry.{SignalEntry}
use Rattle.rtk_collect.specs.Accepted.{kept}
use Rattle.rtk_collect.specs.EpochSet.{EpochSetView}
use Rattle.rtk_collect.specs.Signals.{signals}
use Rattle.rtk_rinex.specs.MixedCheckTable.{HoldsMixedTable}
use Rattle.rtk_setup.specs.declared.counts.Counts.{Counts}
use Rattle.rtk_convert.specs.File.{record_of, records}
use Rattle.rtk_convert.specs.ArrivalLaws.{HasPayload}
use Rattle.rtk_convert.specs.FileOfArrivals.{kept_file}
use Rattle.rtk_convert.specs.Finish.{all_counts, report_of}
use Rattle.rtk_convert.specs.FrameClass.{Found, arrivals}
use Rattle.rtk_convert.specs.Report.{lines}
use Rattle.rtk_setup.specs.Counts.{count_lines}
use Rattle.rtk_setup.specs.Setup.{SetupView, IsSetupView, cells_by}

-- ---- what the lines tell

-- a u64 holds each count
pub record AreHeld (c : Counts) : Type 0 where
  pub frames : c.frames < 2 ^ 64
  pub other : c.other < 2 ^ 64
  pub refused : c.refused < 2 ^ 64
  pub foreign : c.foreign < 2 ^ 64
  pub taken : c.taken < 2 ^ 64
  pub repeat : c.repeat < 2 ^ 64
  pub conflict : c.conflict < 2 ^ 64
  pub late : c.late < 2 ^ 64
  pub epochs : c.epochs < 2 ^ 64

-- equal lines tell equal counts
abbrev pub CountLinesTellCounts : Type 0
CountLinesTellCounts = (c d : Counts) → AreHeld c → AreHeld d → count_lines c ≡ count_lines d → c ≡ d

-- so do equal reports of found frames with the same lines, whatever stands between these lines and the counts
abbrev pub ReportTellsCounts : Type 0
ReportTellsCounts =
    (s : SetupView) (found other : List Found) → AreHeld (all_counts s found) → AreHeld (all_counts s other)
    → lines s found ≡ lines s other → report_of s found ≡ report_of s other → all_counts s found ≡ all_counts s other

-- ---- the count of records

-- the records of epochs, rising; a record may be empty
abbrev pub record_texts : Bool → List AnyCode → List (EpochSetView SignalEntry) → List (List ℕ)
record_texts doppler listed [] = []
record_texts doppler listed (e ∷ below) = record_texts doppler listed below ++ record_of doppler listed e below ∷ []

abbrev pub has_bytes : List ℕ → Bool
has_bytes [] = false
has_bytes (x ∷ text) = true

-- these texts are the records of the file, and this many of them are not empty
pub record AreRecordsOf (doppler : Bool) (listed : List AnyCode) (epochs : List (EpochSetView SignalEntry)) (texts : List (List ℕ)) (count : ℕ) : Type 0 where
  pub file : records doppler listed epochs ≡ flat_map (λ text. text) texts
  pub counted : count ≡ count_by has_bytes texts

-- the count `epochs` is how many of the epochs that are kept have a record in the file, if a count can
-- hold the number of these epochs
abbrev pub EpochsAreRecords : Type 0
EpochsAreRecords =
    (s : SetupView) (found : List Found) → length (kept signals (cells_by s) s.window (arrivals found)) < 2 ^ 64
    → AreRecordsOf s.head.doppler s.head.listed (kept signals (cells_by s) s.window (arrivals found)) (record_texts s.head.doppler s.head.listed (kept signals (cells_by s) s.window (arrivals found))) (all_counts s found).epochs

-- so many records does `check` find in the file of found frames, whatever their payloads
abbrev pub EpochsAreOfTable : Type 0
EpochsAreOfTable =
    (s : SetupView) (found : List Found) (epochs satellites : ℕ) → IsSetupView s → All (HasPayload s) found → length (kept signals (cells_by s) s.window (arrivals found)) < 2 ^ 64
    → HoldsMixedTable (kept_file s (arrivals found)) epochs satellites → (all_counts s found).epochs ≡ epochs
