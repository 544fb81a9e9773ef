-- The command `compare`: what it makes of two texts, of which each is that of a table with a label, perhaps a blank one,
-- and with time lines, perhaps none.
use Rattle.std.specs.Prelude.{◌≡◌, ◌<◌, ◌+◌, ◌^◌, ◌⊎◌, ℕ, Bool, true, false, List, [], ◌++◌, length, Option, MatchOption, Result, Ok, Err}
use Rattle.rtk_rinex.specs.MixedTable.{MixedTable, IsMixedTable, mixed_table_text}
use Rattle.rtk_rinex.specs.MixedCheckTable.{IsMixedFault}
use Rattle.rtk_rinex.specs.declared.check_fault.CheckFault.{CheckFault}
use Rattle.rtk_rinex.specs.declared.check_fault.Cause.TheVariants.{HeaderLine}
use Rattle.rtk_label.specs.Fields.{marker_number_line}
use Rattle.rtk_label.specs.Labelled.{LabelView, IsLabel, IsFor, labelled_mixed_with}
use Rattle.rtk_label.specs.LabelWriting.{IsParted, IsWrongLine, line_in_text}
use Rattle.rtk_label.specs.declared.time_lines.TimeLines.{TimeLines}
use Rattle.rtk_compare.specs.declared.difference.Difference.{Difference}
use Rattle.rtk_compare.specs.declared.findings.Findings.{Findings}
use Rattle.rtk_compare.specs.Differences as differences
use Rattle.rtk_compare.specs.Labels.{label_lines}
use Rattle.rtk_compare.specs.Answer.{answer_text}
use Rattle.rtk_commands.specs.FileTable.{lines_of_epochs}
use Rattle.rtk_commands.specs.declared.with_label.LabelledMixed.{LabelledMixed}
use Rattle.rtk_commands.specs.declared.comparing.Compare.{Compare}
use Rattle.rtk_commands.specs.declared.comparing.Compared.{Compared}
use Rattle.rtk_commands.specs.declared.comparing.Compared.TheVariants.{Told, OldRefused, NewRefused}

-- ---- a text of any systems with a label

-- a text is that of this table with this label, and with some time lines, perhaps none
pub record IsLabelledText (bytes : List ℕ) (t : MixedTable) (l : LabelView) : Type 0 where
  pub times : TimeLines
  pub table : IsMixedTable t
  pub label : IsLabel l
  pub fits : IsFor l t.site
  pub text : bytes ≡ labelled_mixed_with (lines_of_epochs times t.epochs) l t

-- a text is that of no table with a label
abbrev pub IsNoLabelledText : List ℕ → Type 0
IsNoLabelledText text = (t : MixedTable) (l : LabelView) → IsLabelledText text t l → ⊥

-- these are the time lines of the table of any systems whose text this is
abbrev pub HaveMixedLines : List ℕ → TimeLines → List ℕ → Type 0
HaveMixedLines plain w lines = (t : MixedTable) → IsMixedTable t → plain ≡ mixed_table_text t → lines ≡ lines_of_epochs w t.epochs

-- the first of these time lines that is not that of the table whose text is left, if there is one
abbrev pub TellsWrongMixedLine : List ℕ → ℕ → TimeLines → List ℕ → Option ℕ → Type 0
TellsWrongMixedLine plain from w lines told =
    (t : MixedTable) → IsMixedTable t → plain ≡ mixed_table_text t
    → MatchOption told (lines ≡ lines_of_epochs w t.epochs) (IsWrongLine from lines (lines_of_epochs w t.epochs))

-- the text was parted into a label, time lines and the text of a table, and the lines are those of its records
pub record IsPartedMixed (text plain : List ℕ) (label : LabelView) (times : TimeLines) : Type 0 where
  pub lines : List ℕ
  pub parted : IsParted text plain label times lines
  pub table : MixedTable
  pub is_table : IsMixedTable table
  pub is_text : plain ≡ mixed_table_text table
  pub due : HaveMixedLines plain times lines

-- the first fault of what is left of a text, by the line of the text
pub record IsMixedFaultOfPlain (plain : List ℕ) (from : ℕ) (lines : List ℕ) (fault : CheckFault) : Type 0 where
  pub of_plain : CheckFault
  pub is_fault : IsMixedFault plain of_plain
  pub line : of_plain.line + from < 2 ^ 64 → fault.line ≡ line_in_text from lines of_plain.line
  pub cause : fault.cause ≡ of_plain.cause

-- what is left of a text is a table, and these time lines of the text are not those of its records
pub record IsMixedFaultOfLines (plain : List ℕ) (from : ℕ) (w : TimeLines) (lines : List ℕ) (fault : CheckFault) : Type 0 where
  pub table : MixedTable
  pub is_table : IsMixedTable table
  pub text : plain ≡ mixed_table_text table
  pub line : IsWrongLine from lines (lines_of_epochs w table.epochs) fault.line
  pub cause : fault.cause ≡ HeaderLine

-- the first fault of what is left of a text without its label and its time lines, or else the first wrong time line
pub record IsMixedFaultWithLabel (text : List ℕ) (fault : CheckFault) : Type 0 where
  pub plain : List ℕ
  pub label : LabelView
  pub times : TimeLines
  pub lines : List ℕ
  pub from : ℕ
  pub parted : IsParted text plain label times lines
  pub from_is : from ≡ length (marker_number_line label.marker_number) + length lines
  pub size : length plain + from ≡ length text
  pub fault_is : IsMixedFaultOfPlain plain from lines fault ⊎ IsMixedFaultOfLines plain from times lines fault

-- the text is that of no table with a label, and this is its first fault
abbrev pub IsMixedRefused : List ℕ → CheckFault → Type 0
IsMixedRefused text fault = IsNoLabelledText text × IsMixedFaultWithLabel text fault

-- what is read of a text: the table with its label, or the first fault
abbrev pub IsReadMixed : List ℕ → Result LabelledMixed CheckFault → Type 0
IsReadMixed text (Ok file) = IsPartedMixed text file.table.text file.label file.times
IsReadMixed text (Err fault) = IsMixedRefused text fault

-- ---- two texts

abbrev pub lines_of_labels : Bool → LabelView → LabelView → List Difference
lines_of_labels true l m = label_lines l m
lines_of_labels false l m = []

-- the differences of labels, if they are asked for, and those of the files
abbrev pub all_differences : Compare → LabelView → MixedTable → LabelView → MixedTable → List Difference
all_differences command l t m u = lines_of_labels command.labels l m ++ differences.differences t u

-- the differences of two files are told; and it is said that something is lost or changed, exactly if it is so
pub record TellsDifferences (command : Compare) (old new : List ℕ) (worse : Bool) (text : List ℕ) : Type 0 where
  pub old_table : MixedTable
  pub old_label : LabelView
  pub new_table : MixedTable
  pub new_label : LabelView
  pub findings : Findings
  pub is_old : IsLabelledText old old_table old_label
  pub is_new : IsLabelledText new new_table new_label
  pub found : differences.HasFindings findings (all_differences command old_label old_table new_label new_table)
  pub says : worse ≡ differences.is_worse (all_differences command old_label old_table new_label new_table)
  pub told : text ≡ answer_text command.form findings

-- what comes of two texts
abbrev pub ComparesTexts : Compare → List ℕ → List ℕ → Compared → Type 0
ComparesTexts command old new (Told worse text) = TellsDifferences command old new worse text.items
ComparesTexts command old new (OldRefused fault) = IsMixedRefused old fault
ComparesTexts command old new (NewRefused fault) = IsMixedRefused new fault
