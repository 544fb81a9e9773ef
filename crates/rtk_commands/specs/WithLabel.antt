-- A text with a label, perhaps a blank one, and with time lines, perhaps none, that is a file without them. A text is
-- that of one file with one label and one choice of lines at most.
use Rattle.std.specs.Prelude.{◌≡◌, ◌+◌, ◌^◌, ◌<◌, ◌⊎◌, ℕ, List, [], length, Option, MatchOption, Result, Ok, Err}
use Rattle.rtk_rinex.specs.declared.check_fault.CheckFault.{CheckFault}
use Rattle.rtk_rinex.specs.declared.check_fault.Cause.TheVariants.{HeaderLine}
use Rattle.rtk_label.specs.Fields.{marker_number_line}
use Rattle.rtk_label.specs.Labelled.{LabelView, IsLabel, IsFor}
use Rattle.rtk_label.specs.LabelWriting.{IsParted, IsWrongLine, line_in_text}
use Rattle.rtk_label.specs.declared.time_lines.TimeLines.{TimeLines}
use Rattle.rtk_commands.specs.FileTable.{FileTable, IsFileTable, file_text, file_site, file_lines, labelled_file, HaveLines, IsTextOfSomeFile, IsFaultOfFile, text_of, HasItsLetter}
use Rattle.rtk_commands.specs.declared.file_answer.FileAnswer.{FileAnswer}
use Rattle.rtk_commands.specs.declared.file_answer.FileAnswer.TheVariants.{Refused}
use Rattle.rtk_commands.specs.declared.with_label.LabelledTable.{LabelledTable}

-- the text is that of this file with some label, perhaps a blank one, and with some of its time lines, perhaps none
abbrev pub IsWithLabel : List ℕ → FileTable → Type 0
IsWithLabel text f = (w : TimeLines) × (m : LabelView) × IsLabel m × IsFor m (file_site f) × (text ≡ labelled_file w m f)

-- this holds of the file whose text with some label this is
abbrev pub OfItsTable : List ℕ → (FileTable → Type 0) → Type 0
OfItsTable text P = (f : FileTable) → IsFileTable f → IsWithLabel text f → P f

-- the first fault of what is left of a text, by the line of the text
pub record IsFaultOfPlain (plain : List ℕ) (from : ℕ) (lines : List ℕ) (fault : CheckFault) : Type 0 where
  pub of_plain : CheckFault
  pub is_fault : IsFaultOfFile plain of_plain
  pub line : of_plain.line + from < 2 ^ 64 → fault.line ≡ line_in_text from lines of_plain.line
  pub cause : fault.cause ≡ of_plain.cause

-- what is left of a text is a file, and these time lines of the text are not those of its records
pub record IsFaultOfLines (plain : List ℕ) (from : ℕ) (w : TimeLines) (lines : List ℕ) (fault : CheckFault) : Type 0 where
  pub file : FileTable
  pub is_file : IsFileTable file
  pub text : plain ≡ file_text file
  pub line : IsWrongLine from lines (file_lines w file) fault.line
  pub cause : fault.cause ≡ HeaderLine

-- a text is that of no file with a label and its time lines: the first fault of what is left without them, or else the
-- first wrong time line
pub record IsFaultWithLabel (text : List ℕ) (fault : CheckFault) : Type 0 where
  pub plain : List ℕ
  pub label : LabelView
  pub times : TimeLines
  pub lines : List ℕ
  pub from : ℕ
  pub parted : IsParted text plain label times lines
  pub from_is : from ≡ length (marker_number_line label.marker_number) + length lines
  pub size : length plain + from ≡ length text
  pub fault_is : IsFaultOfPlain plain from lines fault ⊎ IsFaultOfLines plain from times lines fault

-- the first of these time lines that is not that of the file whose text is left, if there is one
abbrev pub TellsWrongLine : List ℕ → ℕ → TimeLines → List ℕ → Option ℕ → Type 0
TellsWrongLine plain from w lines told =
    (f : FileTable) → IsFileTable f → plain ≡ file_text f → MatchOption told (lines ≡ file_lines w f) (IsWrongLine from lines (file_lines w f))

-- the text was parted into a label, time lines and the text of a file, and the lines are those of its records
pub record IsPartedTable (text plain : List ℕ) (label : LabelView) (times : TimeLines) : Type 0 where
  pub lines : List ℕ
  pub parted : IsParted text plain label times lines
  pub some : IsTextOfSomeFile plain
  pub due : HaveLines plain times lines

-- the text is that of no file with a label, and this is its first fault
abbrev pub IsRefused : List ℕ → CheckFault → Type 0
IsRefused text fault = OfItsTable text (λ f. ⊥) × IsFaultWithLabel text fault

-- what is read of a text: the file with its label and its time lines, or the first fault
abbrev pub IsReadTable : List ℕ → Result LabelledTable CheckFault → Type 0
IsReadTable text (Ok file) = IsPartedTable text (text_of file.table) file.label file.times × HasItsLetter file.table
IsReadTable text (Err fault) = IsRefused text fault

-- this is made of the file whose text this is, whatever its label and its time lines
abbrev pub MakesOfFile : (FileTable → TimeLines → LabelView → FileAnswer → List ℕ → Type 0) → List ℕ → FileAnswer → List ℕ → Type 0
MakesOfFile Writes plain answer bytes = (f : FileTable) (w : TimeLines) (l : LabelView) → IsFileTable f → plain ≡ file_text f → Writes f w l answer bytes

-- what a command writes of a text that has a label, by what it writes of a file with its label and its time lines: the
-- text is that of such a file, or it is refused with its first fault and nothing is written
abbrev pub WritesOfTable : (FileTable → TimeLines → LabelView → FileAnswer → List ℕ → Type 0) → List ℕ → FileAnswer → List ℕ → Type 0
WritesOfTable Writes text answer bytes =
    ((f : FileTable) × (w : TimeLines) × (l : LabelView) × IsFileTable f × IsLabel l × IsFor l (file_site f) × (text ≡ labelled_file w l f) × Writes f w l answer bytes)
    ⊎ ((fault : CheckFault) × (answer ≡ Refused fault) × IsRefused text fault × (bytes ≡ []))
