-- What a run does: the file and the report of what its readers gave, or how far it came.
use Rattle.std.specs.Prelude.{◌≡◌, ◌⊎◌, ℕ, ◌+◌, ◌≤◌, List, [], ◌∷◌, length, Option, slice_index_or}
use Rattle.rtk_frame.specs.Stream.{CountRises, with_more}
use Rattle.rtk_convert.specs.Converter.{WritesInto, BreaksOffAfter}
use Rattle.rtk_convert.specs.FileOfArrivals.{kept_file, file_so_far}
use Rattle.rtk_convert.specs.FrameClass.{arrivals}
use Rattle.rtk_convert.specs.Finish.{report_of}
use Rattle.rtk_convert.specs.History.{History, IsOpen, IsNextLink}
use Rattle.rtk_convert.specs.ReadSteps.{read_of, found_by_read, HasRead, HasCalled}
use Rattle.rtk_convert.specs.ReadHistory.{Read, IsHistoryOf, AllClosed, AreAtEnd, AllAtEnd, Gave}
use Rattle.rtk_convert.specs.Report.{lines}
use Rattle.rtk_setup.specs.Setup.{SetupView}
use Rattle.rtk_convert.specs.Writing.{Written}

-- ---- as far as it came

-- a read of a link failed; exactly the file so far and the lines of what was read before it are
-- written
pub record FailsReading {R : Type 0} (given : R → Option (List ℕ)) (failures calls : R → ℕ) (s : SetupView) (link : ℕ) (before after : List R) (written_old written_new : Written) : Type 0 where
  pub reads : List Read
  pub history : History
  pub has_read : HasRead given s before after reads history written_old written_new
  pub called : HasCalled calls before after (length reads + 1)
  pub is_next : IsNextLink history link
  pub failed : (none : R) → CountRises (failures (slice_index_or before link none)) (failures (slice_index_or after link none))

-- a link is still open after this number of reads; exactly the file so far and the lines of what
-- was read are written
pub record StaysOpen {R : Type 0} (given : R → Option (List ℕ)) (is_at_end : R → Type 0) (s : SetupView) (max_reads : ℕ) (before after : List R) (written_old written_new : Written) : Type 0 where
  pub reads : List Read
  pub history : History
  pub has_read : HasRead given s before after reads history written_old written_new
  pub made : length reads ≡ max_reads
  pub at_end : AreAtEnd is_at_end after history
  pub link : ℕ
  pub is_open : IsOpen history link

-- the run breaks off at a frame that its last read found: all that the frames before this one add
-- is written, and a first part of what this one adds
pub record BreaksOffReading {R : Type 0} (given : R → Option (List ℕ)) (calls : R → ℕ) (s : SetupView) (before after : List R) (written_old written_new : Written) : Type 0 where
  pub reads : List Read
  pub history : History
  pub comes_to : IsHistoryOf s (length before) reads history
  pub link : ℕ
  pub is_next : IsNextLink history link
  pub piece : List ℕ
  pub few : length piece ≤ 512
  pub gave : Gave given before after (read_of link piece ∷ reads)
  pub called : HasCalled calls before after (length reads + 1)
  pub cut : BreaksOffAfter s link (found_by_read link history piece) [] history.found written_old written_new

-- nothing was read, and nothing is written
pub record IsUntouched {R : Type 0} (before after : List R) (written_old written_new : Written) : Type 0 where
  pub readers : after ≡ before
  pub written : written_new ≡ written_old

-- the run breaks off at its end: what the links gave is written, and a first part of the rest; the
-- report has the lines alone, without a byte of the counts, or the file is whole
pub record BreaksOffAtEnd {R : Type 0} (given : R → Option (List ℕ)) (calls : R → ℕ) (is_at_end : R → Type 0) (s : SetupView) (before after : List R) (written_old written_new : Written) : Type 0 where
  pub reads : List Read
  pub history : History
  pub comes_to : IsHistoryOf s (length before) reads history
  pub closed : AllClosed history
  pub gave : Gave given before after reads
  pub called : HasCalled calls before after (length reads)
  pub at_end : AllAtEnd is_at_end after
  pub out : WritesInto written_old.file written_new.file [] (file_so_far s (arrivals history.found)) (kept_file s (arrivals history.found))
  pub log : WritesInto written_old.report written_new.report [] (lines s history.found) (report_of s history.found)
  pub counts_last : (written_new.report ≡ with_more written_old.report (lines s history.found))
      ⊎ (written_new.file ≡ with_more written_old.file (kept_file s (arrivals history.found)))

-- memory was refused, or a write failed: before anything was read, at a frame, or at the end
abbrev pub BreaksOffRun : {R : Type 0} → (R → Option (List ℕ)) → (R → ℕ) → (R → Type 0) → SetupView → List R → List R → Written → Written → Type 0
BreaksOffRun given calls is_at_end s before after written_old written_new =
    IsUntouched before after written_old written_new
    ⊎ (BreaksOffReading given calls s before after written_old written_new
    ⊎ BreaksOffAtEnd given calls is_at_end s before after written_old written_new)
