-- Laws of what is written: after the bytes that a writer held before stands exactly the line, the
-- picture, the numbers, the part or the file with a label of the whole text, and nothing else.
use Rattle.std.specs.Prelude.{◌≡◌, ℕ, Bool, false, List, ◌++◌, Some}
use Rattle.rtk_quality.specs.declared.form.Form.{Form}
use Rattle.rtk_cut.specs.declared.part.Part.{Part}
use Rattle.rtk_cut.specs.declared.counts.CutCounts.{CutCounts}
use Rattle.rtk_label.specs.Labelled.{LabelView, IsLabel, IsFor, blank_label}
use Rattle.rtk_label.specs.declared.time_lines.TimeLines.{TimeLines}
use Rattle.rtk_commands.specs.declared.charting.Chart.{Chart}
use Rattle.rtk_commands.specs.declared.file_answer.FileAnswer.TheVariants.{Written, Cut}
use Rattle.rtk_commands.specs.CheckInput.{SaysVerdict, Tells}
use Rattle.rtk_commands.specs.ChartInput.{IsPictureOf, DrawsTable}
use Rattle.rtk_commands.specs.QualityInput.{TellsNumbersOf, TellsTable}
use Rattle.rtk_commands.specs.CutInput.{part_of_file, part_counts, CutsTable}
use Rattle.rtk_commands.specs.LabelInput.{LabelsTable}
use Rattle.rtk_commands.specs.FileTable.{FileTable, IsFileTable, file_text, file_site, labelled_file}
use Rattle.rtk_commands.specs.FileText.{WritesAll}
use Rattle.rtk_commands.specs.WithLabel.{IsWithLabel, WritesOfTable}

-- the line of an answer
abbrev pub LineFollows : Type 0
LineFollows =
    (text first last : List ℕ) (valid : Bool) → Tells text valid (Some first) (Some last)
    → (line : List ℕ) × SaysVerdict text valid line × (last ≡ first ++ line)

-- the picture of what is chosen of a file
abbrev pub PictureFollows : Type 0
PictureFollows =
    (chart : Chart) (text first last : List ℕ) → WritesAll (WritesOfTable (DrawsTable chart) text Written) (Some first) (Some last)
    → (f : FileTable) × IsFileTable f × IsWithLabel text f × ((picture : List ℕ) × IsPictureOf chart f picture × (last ≡ first ++ picture))

-- the numbers of a file
abbrev pub NumbersFollow : Type 0
NumbersFollow =
    (form : Form) (text first last : List ℕ) → WritesAll (WritesOfTable (TellsTable form) text Written) (Some first) (Some last)
    → (f : FileTable) × IsFileTable f × IsWithLabel text f × ((numbers : List ℕ) × TellsNumbersOf form f numbers × (last ≡ first ++ numbers))

-- the part of a file, and its counts
abbrev pub PartFollows : Type 0
PartFollows =
    (text first last : List ℕ) (part : Part) (counts : CutCounts) → WritesAll (WritesOfTable (CutsTable part) text (Cut counts)) (Some first) (Some last)
    → (f : FileTable) × IsFileTable f × (counts ≡ part_counts part f)
    × ((w : TimeLines) × (l : LabelView) × IsLabel l × IsFor l (file_site f) × (text ≡ labelled_file w l f) × (last ≡ first ++ labelled_file w l (part_of_file part f)))

-- the file with a label and time lines
abbrev pub LabelFollows : Type 0
LabelFollows =
    (l : LabelView) (w : TimeLines) (text first last : List ℕ) → WritesAll (WritesOfTable (LabelsTable l w) text Written) (Some first) (Some last)
    → (f : FileTable) × IsFileTable f × IsWithLabel text f × IsFor l (file_site f) × (last ≡ first ++ labelled_file w l f)

abbrev pub no_times : TimeLines
no_times = record { interval = false; last = false }

-- with a blank label and no time line it is the file itself
abbrev pub NothingGivesFile : Type 0
NothingGivesFile =
    (text first last : List ℕ) → WritesAll (WritesOfTable (LabelsTable blank_label no_times) text Written) (Some first) (Some last)
    → (f : FileTable) × IsFileTable f × IsWithLabel text f × (last ≡ first ++ file_text f)
