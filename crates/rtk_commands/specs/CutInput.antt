-- The command `cut`: what it writes of a file with a label.
use Rattle.std.specs.Prelude.{◌≡◌, ℕ, List, length, drop, Option}
use Rattle.rtk_frame.specs.Stream.{with_more, TakesPart}
use Rattle.rtk_tracking.specs.Epochs.{capped}
use Rattle.rtk_cut.specs.declared.part.Part.{Part}
use Rattle.rtk_cut.specs.declared.counts.CutCounts.{CutCounts}
use Rattle.rtk_cut.specs.declared.extent.Extent.{Extent}
use Rattle.rtk_cut.specs.Cut.{cut_of, mixed_cut_of}
use Rattle.rtk_cut.specs.Extent.{extent_of}
use Rattle.rtk_label.specs.Labelled.{LabelView}
use Rattle.rtk_label.specs.declared.time_lines.TimeLines.{TimeLines}
use Rattle.rtk_commands.specs.declared.file_answer.FileAnswer.{FileAnswer}
use Rattle.rtk_commands.specs.declared.file_answer.FileAnswer.TheVariants.{Cut}
use Rattle.rtk_commands.specs.FileTable.{FileTable, OfGps, OfSystems, IsFileTable, file_text, file_epochs, file_lines, labelled_file}

-- the part of a file
abbrev pub part_of_file : Part → FileTable → FileTable
part_of_file part (OfGps t) = OfGps (cut_of part t)
part_of_file part (OfSystems t) = OfSystems (mixed_cut_of part t)

-- so many records has the file, and so many of them its part
abbrev pub part_counts : Part → FileTable → CutCounts
part_counts part f = record { records = capped (length (file_epochs f)); written = capped (length (file_epochs (part_of_file part f))) }

-- the part of the file, with the label of the text; if the text has time lines, the part has those of its own records
abbrev pub CutsTable : Part → FileTable → TimeLines → LabelView → FileAnswer → List ℕ → Type 0
CutsTable part f w l answer bytes = (answer ≡ Cut (part_counts part f)) × (bytes ≡ labelled_file w l (part_of_file part f))

-- the interval and the last moment of the part of the file whose text this is
abbrev pub TellsExtent : List ℕ → Part → Extent → Type 0
TellsExtent plain part extent =
    (f : FileTable) → IsFileTable f → plain ≡ file_text f → extent ≡ extent_of (file_epochs (part_of_file part f))

-- the time lines of the part of the file whose text this is
abbrev pub HaveLinesOfPart : List ℕ → TimeLines → Part → List ℕ → Type 0
HaveLinesOfPart plain w part lines =
    (f : FileTable) → IsFileTable f → plain ≡ file_text f → lines ≡ file_lines w (part_of_file part f)

-- of the file whose text this is the part was written: before, after
abbrev pub WritesPartOfFile : List ℕ → Part → Option (List ℕ) → Option (List ℕ) → Type 0
WritesPartOfFile plain part before after =
    (f : FileTable) → IsFileTable f → plain ≡ file_text f → after ≡ with_more before (file_text (part_of_file part f))

-- of this a first part was written, perhaps none or all of it
abbrev pub WritesFirstOfPartOfFile : List ℕ → Part → Option (List ℕ) → Option (List ℕ) → Type 0
WritesFirstOfPartOfFile plain part before after =
    (f : FileTable) → IsFileTable f → plain ≡ file_text f → TakesPart before after (file_text (part_of_file part f))

-- so many records has the file whose text this is, and so many of them its part
abbrev pub CountsPartOfFile : List ℕ → Part → CutCounts → Type 0
CountsPartOfFile plain part counts =
    (f : FileTable) → IsFileTable f → plain ≡ file_text f
    → (counts.records ≡ capped (length (file_epochs f))) × (counts.written ≡ capped (length (file_epochs (part_of_file part f))))

-- of a text of a file without its label the part was written with this label and with time lines: before, after
abbrev pub WritesLabelledPart : LabelView → TimeLines → List ℕ → Part → Option (List ℕ) → Option (List ℕ) → Type 0
WritesLabelledPart l w plain part before after =
    (f : FileTable) → IsFileTable f → plain ≡ file_text f → after ≡ with_more before (labelled_file w l (part_of_file part f))

-- of this a first part was written, perhaps none or all of it
abbrev pub WritesFirstOfLabelledPart : LabelView → TimeLines → List ℕ → Part → Option (List ℕ) → Option (List ℕ) → Type 0
WritesFirstOfLabelledPart l w plain part before after =
    (f : FileTable) → IsFileTable f → plain ≡ file_text f → TakesPart before after (labelled_file w l (part_of_file part f))

-- what comes after the first nine lines of the part was written
abbrev pub WritesRestOfPart : List ℕ → Part → Option (List ℕ) → Option (List ℕ) → Type 0
WritesRestOfPart plain part before after =
    (f : FileTable) → IsFileTable f → plain ≡ file_text f → after ≡ with_more before (drop 729 (file_text (part_of_file part f)))

abbrev pub WritesFirstOfRest : List ℕ → Part → Option (List ℕ) → Option (List ℕ) → Type 0
WritesFirstOfRest plain part before after =
    (f : FileTable) → IsFileTable f → plain ≡ file_text f → TakesPart before after (drop 729 (file_text (part_of_file part f)))
