-- The command `label`: what it writes of a file.
use Rattle.std.specs.Prelude.{◌≡◌, ◌⊎◌, ℕ, Bool, List, [], ◌++◌, Option, Decides}
use Rattle.rtk_frame.specs.Stream.{with_more, TakesPart}
use Rattle.rtk_label.specs.Labelled.{LabelView, IsFor}
use Rattle.rtk_label.specs.declared.time_lines.TimeLines.{TimeLines}
use Rattle.rtk_commands.specs.declared.file_answer.FileAnswer.{FileAnswer}
use Rattle.rtk_commands.specs.declared.file_answer.FileAnswer.TheVariants.{Written, Height}
use Rattle.rtk_commands.specs.FileTable.{FileTable, IsFileTable, file_text, file_site, file_front, file_with_lines, labelled_file}

-- the file with a label and time lines in place of those that it has; or this label has a height, and the stream told
-- one, and nothing is written
abbrev pub LabelsTable : LabelView → TimeLines → FileTable → TimeLines → LabelView → FileAnswer → List ℕ → Type 0
LabelsTable l w f old_times old answer bytes =
    ((answer ≡ Written) × IsFor l (file_site f) × (bytes ≡ labelled_file w l f))
    ⊎ ((answer ≡ Height) × ¬ (IsFor l (file_site f)) × (bytes ≡ []))

-- whether the label is for the file whose text this is
abbrev pub TellsIsFor : LabelView → List ℕ → Bool → Type 0
TellsIsFor l plain told = (f : FileTable) → IsFileTable f → plain ≡ file_text f → Decides told (IsFor l (file_site f))

-- it is
abbrev pub IsForFile : LabelView → List ℕ → Type 0
IsForFile l plain = (f : FileTable) → IsFileTable f → plain ≡ file_text f → IsFor l (file_site f)

-- the file whose text this is was written with the label, and with these lines after those that it changes: before, after
abbrev pub WritesWithLines : List ℕ → LabelView → List ℕ → Option (List ℕ) → Option (List ℕ) → Type 0
WritesWithLines plain l lines before after =
    (f : FileTable) → IsFileTable f → plain ≡ file_text f → after ≡ with_more before (file_with_lines lines l f)

-- of this a first part was written, perhaps none or all of it
abbrev pub WritesFirstWithLines : List ℕ → LabelView → List ℕ → Option (List ℕ) → Option (List ℕ) → Type 0
WritesFirstWithLines plain l lines before after =
    (f : FileTable) → IsFileTable f → plain ≡ file_text f → TakesPart before after (file_with_lines lines l f)

-- of the file whose text this is the lines were written that the label changes
abbrev pub WritesFrontOfFile : List ℕ → LabelView → Option (List ℕ) → Option (List ℕ) → Type 0
WritesFrontOfFile plain l before after =
    (f : FileTable) → IsFileTable f → plain ≡ file_text f → after ≡ with_more before (file_front l f)

-- of these a first part was written, perhaps none or all of it
abbrev pub WritesFirstOfFrontOfFile : List ℕ → LabelView → Option (List ℕ) → Option (List ℕ) → Type 0
WritesFirstOfFrontOfFile plain l before after =
    (f : FileTable) → IsFileTable f → plain ≡ file_text f → TakesPart before after (file_front l f)

-- the lines that the label changes were written, and these lines
abbrev pub WritesFrontAndLines : List ℕ → LabelView → List ℕ → Option (List ℕ) → Option (List ℕ) → Type 0
WritesFrontAndLines plain l lines before after =
    (f : FileTable) → IsFileTable f → plain ≡ file_text f → after ≡ with_more before (file_front l f ++ lines)

abbrev pub WritesFirstOfFrontAndLines : List ℕ → LabelView → List ℕ → Option (List ℕ) → Option (List ℕ) → Type 0
WritesFirstOfFrontAndLines plain l lines before after =
    (f : FileTable) → IsFileTable f → plain ≡ file_text f → TakesPart before after (file_front l f ++ lines)
