-- The steps of a run: what one read comes to, and what all reads so far have come to.
use Rattle.std.specs.Prelude.{◌≡◌, ◌⊎◌, ℕ, ◌+◌, ◌<◌, ◌≤◌, List, [], ◌∷◌, length, Option, slice_index_or, sum_by}
use Rattle.rtk_frame.specs.Stream.{greatest_count, with_more}
use Rattle.rtk_convert.specs.FileOfArrivals.{file_so_far}
use Rattle.rtk_convert.specs.FrameClass.{arrivals}
use Rattle.rtk_convert.specs.History.{History, fed_on, found_by_piece, found_by_close}
use Rattle.rtk_convert.specs.ReadHistory.{Read, IsHistoryOf, Gave}
use Rattle.rtk_convert.specs.Report.{lines}
use Rattle.rtk_setup.specs.Setup.{SetupView}
use Rattle.rtk_convert.specs.Writing.{Written}

-- a read of a link that gave these bytes
abbrev pub read_of : ℕ → List ℕ → Read
read_of link piece = record { link = link; piece = piece }

-- the payloads that a read of a link finds
abbrev pub found_by_read : ℕ → History → List ℕ → List (List ℕ)
found_by_read link h [] = found_by_close (fed_on link h.links)
found_by_read link h (x ∷ piece) = found_by_piece (fed_on link h.links) (x ∷ piece)

-- after these reads exactly the file so far and the lines are written
pub record HasRead {R : Type 0} (given : R → Option (List ℕ)) (s : SetupView) (before after : List R) (reads : List Read) (h : History) (written_old written_new : Written) : Type 0 where
  pub comes_to : IsHistoryOf s (length before) reads h
  pub gave : Gave given before after reads
  pub out : written_new.file ≡ with_more written_old.file (file_so_far s (arrivals h.found))
  pub log : written_new.report ≡ with_more written_old.report (lines s h.found)

-- the counts of failed reads are as they were
abbrev pub SameFailures : {R : Type 0} → (R → ℕ) → List R → List R → Type 0
SameFailures {R} failures before after = (k : ℕ) (none : R) → failures (slice_index_or after k none) ≡ failures (slice_index_or before k none)

-- ---- how many reads were made, by the counts of calls

-- one of the counts stands at its greatest value
abbrev pub AnyAtGreatest : {R : Type 0} → (R → ℕ) → List R → Type 0
AnyAtGreatest {R} calls readers = (k : ℕ) × (k < length readers) × ((none : R) → greatest_count ≤ calls (slice_index_or readers k none))

-- the counts of calls rose by n in all, or one of them stands at its greatest value
abbrev pub HasCalled : {R : Type 0} → (R → ℕ) → List R → List R → ℕ → Type 0
HasCalled calls before after n = (sum_by calls after ≡ sum_by calls before + n) ⊎ AnyAtGreatest calls after
