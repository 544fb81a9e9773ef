-- What is written of a file's part. A text is the text of one well-formed table at most, so the
-- table is the one whose text it is.
use Rattle.std.specs.Prelude.{◌≡◌, ℕ, List, length, Option}
use Rattle.rtk_frame.specs.Stream.{with_more, TakesPart}
use Rattle.rtk_rinex.specs.Table.{WellFormedTable, IsWellFormedTable, table_text}
use Rattle.rtk_rinex.specs.MixedTable.{MixedTable, IsMixedTable, mixed_table_text}
use Rattle.rtk_cut.specs.declared.part.Part.{Part}
use Rattle.rtk_tracking.specs.Epochs.{capped}
use Rattle.rtk_cut.specs.Cut.{cut_of, mixed_cut_of}
use Rattle.rtk_cut.specs.declared.counts.CutCounts.{CutCounts}

-- ---- a file of GPS

-- of the table whose text this is the part was written: before, after
abbrev pub WritesPart : List ℕ → Part → Option (List ℕ) → Option (List ℕ) → Type 0
WritesPart text part before after =
    (t : WellFormedTable) → IsWellFormedTable t → text ≡ table_text t → after ≡ with_more before (table_text (cut_of part t))

-- of its text a first part was written, perhaps none or all of it
abbrev pub WritesFirstOfPart : List ℕ → Part → Option (List ℕ) → Option (List ℕ) → Type 0
WritesFirstOfPart text part before after =
    (t : WellFormedTable) → IsWellFormedTable t → text ≡ table_text t → TakesPart before after (table_text (cut_of part t))

-- so many records has the table whose text this is, and so many of them its part
abbrev pub CountsPart : List ℕ → Part → CutCounts → Type 0
CountsPart text part counts =
    (t : WellFormedTable) → IsWellFormedTable t → text ≡ table_text t
    → (counts.records ≡ capped (length t.epochs)) × (counts.written ≡ capped (length (cut_of part t).epochs))

-- ---- a file of any systems, as one of GPS

abbrev pub WritesMixedPart : List ℕ → Part → Option (List ℕ) → Option (List ℕ) → Type 0
WritesMixedPart text part before after =
    (t : MixedTable) → IsMixedTable t → text ≡ mixed_table_text t → after ≡ with_more before (mixed_table_text (mixed_cut_of part t))

abbrev pub WritesFirstOfMixedPart : List ℕ → Part → Option (List ℕ) → Option (List ℕ) → Type 0
WritesFirstOfMixedPart text part before after =
    (t : MixedTable) → IsMixedTable t → text ≡ mixed_table_text t → TakesPart before after (mixed_table_text (mixed_cut_of part t))

abbrev pub CountsMixedPart : List ℕ → Part → CutCounts → Type 0
CountsMixedPart text part counts =
    (t : MixedTable) → IsMixedTable t → text ≡ mixed_table_text t
    → (counts.records ≡ capped (length t.epochs)) × (counts.written ≡ capped (length (mixed_cut_of part t).epochs))
