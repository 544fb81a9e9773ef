-- What one read of a link comes to, and what all reads of a run come to.
use Rattle.std.specs.Prelude.{◌≡◌, ◌≢◌, ℕ, ◌+◌, ◌≤◌, List, [], ◌∷◌, length, Option, Result, slice_index_or, sum_by, OnOk, IfErr, IsErrOf}
use Rattle.rtk_frame.specs.Stream.{CountRises}
use Rattle.rtk_convert.specs.Converter.{ConverterView, RepresentsHistory, WritesOn, BreaksOffAt}
use Rattle.rtk_convert.specs.History.{History, IsNextLink}
use Rattle.rtk_convert.specs.Failure.{IsFrameFault}
use Rattle.rtk_convert.specs.Run.{BreaksOffReading, StaysOpen}
use Rattle.rtk_convert.specs.declared.fault.ConvertFault.{ConvertFault}
use Rattle.rtk_convert.specs.declared.fault.ConvertFault.TheVariants.{Endless}
use Rattle.rtk_convert.specs.ReadHistory.{Read, IsNextRead, AllClosed, AllAtEnd, Gave}
use Rattle.rtk_setup.specs.Setup.{SetupView}
use Rattle.rtk_convert.specs.ReadSteps.{read_of, found_by_read, HasRead, HasCalled, AnyAtGreatest}
use Rattle.rtk_convert.specs.Writing.{Written}

-- one more read of a link: its bytes are fed, and what the frames in them add is written; a read
-- that gave no bytes has met the end
pub record ReadsLink {R : Type 0} (given : R → Option (List ℕ)) (is_at_end : R → Type 0) (s : SetupView) (h : History) (link : ℕ) (before after : List R) (new : ConverterView) (written_old written_new : Written) : Type 0 where
  pub piece : List ℕ
  pub next : History
  pub is_next : IsNextRead s h (read_of link piece) next
  pub gave : Gave given before after (read_of link piece ∷ [])
  pub others : (k : ℕ) (none : R) → k ≢ link → slice_index_or after k none ≡ slice_index_or before k none
  pub at_end : (none : R) → piece ≡ [] → is_at_end (slice_index_or after link none)
  pub represents : RepresentsHistory new next
  pub writes : WritesOn s h.found next.found written_old written_new

-- a read after which the converter breaks off
pub record BreaksOffAfterRead {R : Type 0} (given : R → Option (List ℕ)) (s : SetupView) (h : History) (link : ℕ) (before after : List R) (written_old written_new : Written) : Type 0 where
  pub piece : List ℕ
  pub few : length piece ≤ 512
  pub gave : Gave given before after (read_of link piece ∷ [])
  pub breaks : BreaksOffAt s link (found_by_read link h piece) h.found written_old written_new

-- a read of a link failed, and nothing came of it
pub record FailsRead {R : Type 0} (given : R → Option (List ℕ)) (failures : R → ℕ) (link : ℕ) (before after : List R) (written_old written_new : Written) : Type 0 where
  pub gave : Gave given before after []
  pub failed : (none : R) → CountRises (failures (slice_index_or before link none)) (failures (slice_index_or after link none))
  pub written : written_new ≡ written_old

-- all links were read to their ends, by as many calls as there are reads
pub record HasReadAll {R : Type 0} (given : R → Option (List ℕ)) (calls : R → ℕ) (is_at_end : R → Type 0) (s : SetupView) (before after : List R) (new : ConverterView) (written_old written_new : Written) : Type 0 where
  pub reads : List Read
  pub history : History
  pub has_read : HasRead given s before after reads history written_old written_new
  pub closed : AllClosed history
  pub called : HasCalled calls before after (length reads)
  pub at_end : AllAtEnd is_at_end after
  pub represents : RepresentsHistory new history

-- ---- the answers

-- the readers are as many, and one call of one of them was made at most
pub record CallsOne {R : Type 0} (calls : R → ℕ) (before after : List R) : Type 0 where
  pub as_many : length after ≡ length before
  pub reads : sum_by calls after ≤ sum_by calls before + 1
  pub called : HasCalled calls before after 1
  pub full : AnyAtGreatest calls before → AnyAtGreatest calls after

-- the next link is read once, whatever the history was, or the call breaks off at what the read gave
pub record ReadsNext {R T : Type 0} (given : R → Option (List ℕ)) (is_at_end : R → Type 0) (old : ConverterView) (link : ℕ)
    (before after : List R) (result : Result T ConvertFault) (new : ConverterView) (written_old written_new : Written) : Type 0 where
  pub ok : OnOk result ((h : History) → RepresentsHistory old h → IsNextLink h link
      → ReadsLink given is_at_end old.conversion.setup h link before after new written_old written_new)
  pub err : IfErr result (λ fault. IsFrameFault fault → (h : History) → RepresentsHistory old h
      → BreaksOffAfterRead given old.conversion.setup h link before after written_old written_new)

-- all links are read to their ends, or the call breaks off, or a link is still open after all reads
pub record ReadsToEnds {R T : Type 0} (given : R → Option (List ℕ)) (calls : R → ℕ) (is_at_end : R → Type 0) (s : SetupView) (max_reads : ℕ)
    (before after : List R) (result : Result T ConvertFault) (new : ConverterView) (written_old written_new : Written) : Type 0 where
  pub ok : OnOk result (HasReadAll given calls is_at_end s before after new written_old written_new)
  pub err : IfErr result (λ fault. IsFrameFault fault → BreaksOffReading given calls s before after written_old written_new)
  pub endless : IsErrOf result Endless → StaysOpen given is_at_end s max_reads before after written_old written_new × HasCalled calls before after max_reads
