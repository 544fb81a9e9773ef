-- A conversion by bytes: those that its readers had, and those that its writers hold.
use Rattle.std.specs.Prelude.{◌≡◌, ◌<◌, ℕ, true, List, ◌++◌, length, Option, None, Some, Result, Err, IsErrOf, slice_index_or}
use Rattle.rtk_frame.specs.Stream.{with_more}
use Rattle.rtk_commands.specs.Steps.ReadLimits.{most_reads}
use Rattle.rtk_setup.specs.declared.counts.Counts.{Counts}
use Rattle.rtk_convert.specs.declared.fault.ConvertFault.{ConvertFault}
use Rattle.rtk_convert.specs.declared.fault.ConvertFault.TheVariants.{Read as ReadFailed, Endless}
use Rattle.rtk_convert.specs.FileOfArrivals.{file_so_far}
use Rattle.rtk_convert.specs.FrameClass.{arrivals}
use Rattle.rtk_convert.specs.Headline.{Came, has_ended, ComeBy, Headline}
use Rattle.rtk_convert.specs.History.{History}
use Rattle.rtk_convert.specs.Kept.{KeepsInOrder}
use Rattle.rtk_convert.specs.ReadHistory.{Read, IsHistoryOf, bytes_of}
use Rattle.rtk_convert.specs.Report.{lines}
use Rattle.rtk_setup.specs.Setup.{SetupView}
use Rattle.rtk_convert.specs.Writing.{Written}

-- a conversion of readers, each of them a link: where the bytes that a reader had are known, the
-- reads of its link gave exactly these, all of them and in their order; for the messages that these
-- reads brought the promise of a conversion holds
pub record ConvertsBytes (s : SetupView) (bytes : List (Option (List ℕ))) (written_old written_new : Written) : Type 0 where
  pub reads : List Read
  pub came : Came
  pub all_bytes : (k : ℕ) (text : List ℕ) → slice_index_or bytes k None ≡ Some text → bytes_of k reads ≡ text
  pub of_all_pieces : ComeBy s (length bytes) reads came
  pub all_ended : (link : ℕ) → link < length bytes → has_ended link reads ≡ true
  pub headline : Headline s came written_old written_new

-- the promise, and of the same reads and messages the rest: the order of the reads, what is kept, the
-- report and the counts
pub record KeepsBytes (s : SetupView) (bytes : List (Option (List ℕ))) (counts : Counts) (written_old written_new : Written) : Type 0 where
  pub promise : ConvertsBytes s bytes written_old written_new
  pub rest : KeepsInOrder s (length bytes) promise.reads promise.came counts written_old written_new

-- a conversion ended at a read that failed, or after the most reads that are made
abbrev pub EndsAtRead : Result Counts ConvertFault → Type 0
EndsAtRead (Err (ReadFailed link)) = Unit {0}
EndsAtRead (Err Endless) = Unit {0}
EndsAtRead _ = ⊥

-- then the reads gave a first part of the bytes of each reader, and exactly the file so far and the
-- lines of what was read are written; an input is told not to end only after the most reads
pub record ConvertsFirstBytes (s : SetupView) (bytes : List (Option (List ℕ))) (done : Result Counts ConvertFault) (written_old written_new : Written) : Type 0 where
  pub reads : List Read
  pub first_bytes : (k : ℕ) (text : List ℕ) → slice_index_or bytes k None ≡ Some text → (rest : List ℕ) × (text ≡ bytes_of k reads ++ rest)
  pub made : IsErrOf done Endless → length reads ≡ most_reads
  pub history : History
  pub comes_to : IsHistoryOf s (length bytes) reads history
  pub out : written_new.file ≡ with_more written_old.file (file_so_far s (arrivals history.found))
  pub log : written_new.report ≡ with_more written_old.report (lines s history.found)
