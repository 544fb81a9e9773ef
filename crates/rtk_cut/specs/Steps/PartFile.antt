-- A part of a file while it is written.
use Rattle.std.specs.Prelude.{◌≡◌, ℕ, ◌+◌, Bool, true, false, List, [], ◌∷◌, ◌++◌, Option, flat_map, length}
use Rattle.rtk_frame.specs.Stream.{with_more, TakesPart}
use Rattle.rtk_rinex.specs.Record.{EpochTableView}
use Rattle.rtk_tracking.specs.Epochs.{capped}
use Rattle.rtk_cut.specs.declared.counts.CutCounts.{CutCounts}
use Rattle.rtk_cut.specs.declared.part_writer.PartWriter.{PartWriter}
use Rattle.rtk_cut.specs.declared.part.Choice.{Choice}
use Rattle.rtk_cut.specs.Cut.{step_of, kept_after}
use Rattle.rtk_cut.specs.Steps.FileTexts.{FileTexts, text_with}
use Rattle.rtk_cut.specs.Steps.Pending.{StandsForSlips}

-- what is still to be written of the epochs that are left, after these earlier ones, newest first;
-- the header is out, or it is not
abbrev pub still_to_write : Choice → FileTexts → Bool → List EpochTableView → List EpochTableView → List ℕ
still_to_write choice f true earlier left = flat_map f.record_of (kept_after choice earlier left)
still_to_write choice f false earlier left = text_with choice.from f (kept_after choice earlier left)

-- of a text that was to be written a first part was, and this rest is still to be
abbrev pub WritesUpTo : Option (List ℕ) → Option (List ℕ) → List ℕ → List ℕ → Type 0
WritesUpTo before after text rest = (more : List ℕ) × (text ≡ more ++ rest) × (after ≡ with_more before more)

-- what is known while a part is written
pub record WritingView : Type 0 where
  pub texts : FileTexts
  pub marks : List Bool
  pub choice : Choice
  pub is_header_out : Bool

-- of a writer, by the texts and the marks of its file
abbrev pub writing : {F : Type 0} → (F → FileTexts) → (F → List Bool) → PartWriter F → WritingView
writing texts marks w = record { texts = texts w.file; marks = marks w.file; choice = w.choice; is_header_out = w.is_header_out }

-- no record was taken
pub record IsFresh {F : Type 0} (w : PartWriter F) (file : F) (choice : Choice) : Type 0 where
  pub of_file : w.file ≡ file
  pub of_choice : w.choice ≡ choice
  pub is_header_out : w.is_header_out ≡ false
  pub records : w.counts.records ≡ 0
  pub written : w.counts.written ≡ 0

-- a record was taken: its slips are kept or shown, and it is written, if the part has it
abbrev pub TakesEpoch : WritingView → WritingView → EpochTableView → Option (List ℕ) → Option (List ℕ) → Type 0
TakesEpoch w w' e before after =
    (earlier left : List EpochTableView) → StandsForSlips w.marks (step_of w.choice) earlier
    → StandsForSlips w'.marks (step_of w.choice) (e ∷ earlier)
    × WritesUpTo before after (still_to_write w.choice w.texts w.is_header_out earlier (e ∷ left)) (still_to_write w.choice w.texts w'.is_header_out (e ∷ earlier) left)

-- it broke off: of what was to be written a first part is out
abbrev pub TakesEpochInPart : WritingView → EpochTableView → Option (List ℕ) → Option (List ℕ) → Type 0
TakesEpochInPart w e before after =
    (earlier left : List EpochTableView) → StandsForSlips w.marks (step_of w.choice) earlier
    → TakesPart before after (still_to_write w.choice w.texts w.is_header_out earlier (e ∷ left))

-- the records that are written are counted: an epoch has one more, or none
abbrev pub CountsWritten : Choice → CutCounts → CutCounts → EpochTableView → Type 0
CountsWritten choice counts counts' e =
    (earlier left : List EpochTableView) (n : ℕ) → counts.written ≡ capped n
    → (more : ℕ) × (counts'.written ≡ capped (n + more))
    × (length (kept_after choice earlier (e ∷ left)) ≡ more + length (kept_after choice (e ∷ earlier) left))

-- the end of the file was taken: all is written
abbrev pub TakesEnd : WritingView → Option (List ℕ) → Option (List ℕ) → Type 0
TakesEnd w before after = (earlier : List EpochTableView) → after ≡ with_more before (still_to_write w.choice w.texts w.is_header_out earlier [])

abbrev pub TakesEndInPart : WritingView → Option (List ℕ) → Option (List ℕ) → Type 0
TakesEndInPart w before after = (earlier : List EpochTableView) → TakesPart before after (still_to_write w.choice w.texts w.is_header_out earlier [])

-- so many records these epochs are, and so many the chosen part of them has
abbrev pub CountsEpochs : Choice → List EpochTableView → CutCounts → Type 0
CountsEpochs choice epochs counts = (counts.records ≡ capped (length epochs)) × (counts.written ≡ capped (length (kept_after choice [] epochs)))
