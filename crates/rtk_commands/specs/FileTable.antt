-- A file that the commands of a file take: of GPS alone, or with other systems; and its text with a label and time lines.
use Rattle.std.specs.Prelude.{◌≡◌, ◌≢◌, ◌⊎◌, ◌==◌, ◌&&◌, not, true, false, ℕ, Bool, List, ◌++◌, length, get_or}
use Rattle.rtk_rinex.specs.Header.{PositionView}
use Rattle.rtk_rinex.specs.Record.{EpochTableView}
use Rattle.rtk_rinex.specs.Table.{WellFormedTable, IsWellFormedTable, table_text}
use Rattle.rtk_rinex.specs.MixedTable.{MixedTable, IsMixedTable, mixed_table_text, has_shift_type}
use Rattle.rtk_rinex.specs.CheckText.{satellite_lines}
use Rattle.rtk_rinex.specs.CheckTable.{IsFault}
use Rattle.rtk_rinex.specs.MixedCheckTable.{IsMixedFault}
use Rattle.rtk_rinex.specs.declared.check_fault.CheckFault.{CheckFault}
use Rattle.rtk_cut.specs.Extent.{extent_of}
use Rattle.rtk_label.specs.Labelled.{LabelView, front_lines, labelled_with, mixed_front_lines, labelled_mixed_with}
use Rattle.rtk_label.specs.TimeLines.{extent_lines}
use Rattle.rtk_label.specs.declared.time_lines.TimeLines.{TimeLines}
use Rattle.rtk_commands.specs.declared.any_table.AnyTable.{AnyTable}
use Rattle.rtk_commands.specs.declared.any_table.AnyTable.TheVariants.{Gps, Mixed}

-- a file, by its table
pub data FileTable : Type 0 where
  OfGps : (t : WellFormedTable) → FileTable
  OfSystems : (t : MixedTable) → FileTable

-- formula
-- the letter of the system in the first line, column 41 (RINEX 3.05, Table A2)
abbrev pub letter_in : List ℕ → ℕ
letter_in text = get_or text 40 0

-- formula
-- a text is read as one of a file of GPS alone: it has the letter of GPS, and no type of a Doppler shift (this project's
-- rule)
abbrev pub is_gps_text : List ℕ → Bool
is_gps_text text = (letter_in text == 71) && not (has_shift_type text)

-- formula
-- the table is well-formed, and its text is read as what it is; a file of GPS alone without Doppler shifts is one of GPS
abbrev pub IsFileTable : FileTable → Type 0
IsFileTable (OfGps t) = IsWellFormedTable t × (is_gps_text (table_text t) ≡ true)
IsFileTable (OfSystems t) = IsMixedTable t × (is_gps_text (mixed_table_text t) ≡ false)

-- each well-formed table of GPS is a file, since its text is read as what it is
abbrev pub GpsTablesAreFiles : Type 0
GpsTablesAreFiles = (t : WellFormedTable) → IsWellFormedTable t → IsFileTable (OfGps t)

abbrev pub file_text : FileTable → List ℕ
file_text (OfGps t) = table_text t
file_text (OfSystems t) = mixed_table_text t

abbrev pub file_site : FileTable → PositionView
file_site (OfGps t) = t.site
file_site (OfSystems t) = t.site

abbrev pub file_epochs : FileTable → List EpochTableView
file_epochs (OfGps t) = t.epochs
file_epochs (OfSystems t) = t.epochs

-- the lines of the header that follow from these records, as far as they are asked for: by their interval, and by the
-- moment of the last one
abbrev pub lines_of_epochs : TimeLines → List EpochTableView → List ℕ
lines_of_epochs w epochs = extent_lines w (extent_of epochs).interval_ms (extent_of epochs).last

abbrev pub file_lines : TimeLines → FileTable → List ℕ
file_lines w f = lines_of_epochs w (file_epochs f)

-- the file with a label, and with these lines after those that the label changes
abbrev pub file_with_lines : List ℕ → LabelView → FileTable → List ℕ
file_with_lines lines l (OfGps t) = labelled_with lines l t
file_with_lines lines l (OfSystems t) = labelled_mixed_with lines l t

-- the file with a label, and with the lines that follow from its records, as far as they are asked for
abbrev pub labelled_file : TimeLines → LabelView → FileTable → List ℕ
labelled_file w l f = file_with_lines (file_lines w f) l f

-- its lines that a label changes
abbrev pub file_front : LabelView → FileTable → List ℕ
file_front l (OfGps t) = front_lines l t.head t.site
file_front l (OfSystems t) = mixed_front_lines l t.head t.site

-- ---- texts

-- the text is that of a file
abbrev pub IsTextOfSomeFile : List ℕ → Type 0
IsTextOfSomeFile text = (f : FileTable) × IsFileTable f × (text ≡ file_text f)

-- the text is that of a file with so many records and satellite lines
abbrev pub HoldsFile : List ℕ → ℕ → ℕ → Type 0
HoldsFile text records lines =
    (f : FileTable) × IsFileTable f × (text ≡ file_text f) × (length (file_epochs f) ≡ records) × (satellite_lines (file_epochs f) ≡ lines)

-- these are the lines of the file whose text this is that follow from its records
abbrev pub HaveLines : List ℕ → TimeLines → List ℕ → Type 0
HaveLines plain w lines = (f : FileTable) → IsFileTable f → plain ≡ file_text f → lines ≡ file_lines w f

-- the text is that of no file
abbrev pub IsTextOfNoFile : List ℕ → Type 0
IsTextOfNoFile text = (f : FileTable) → IsFileTable f → text ≢ file_text f

-- formula
-- the first fault of a text: that of a file of GPS, if it is read as one, and else that of a file of any systems (this
-- project's rule)
abbrev pub IsFaultOfFile : List ℕ → CheckFault → Type 0
IsFaultOfFile text fault = ((is_gps_text text ≡ true) × IsFault text fault) ⊎ ((is_gps_text text ≡ false) × IsMixedFault text fault)

-- ---- a table in its text

abbrev pub text_of : AnyTable → List ℕ
text_of (Gps table) = table.text
text_of (Mixed table) = table.text

-- its letter and its types say which it is
abbrev pub HasItsLetter : AnyTable → Type 0
HasItsLetter (Gps table) = is_gps_text table.text ≡ true
HasItsLetter (Mixed table) = is_gps_text table.text ≡ false

abbrev pub records_of : AnyTable → ℕ
records_of (Gps table) = table.epochs
records_of (Mixed table) = table.epochs

abbrev pub lines_of : AnyTable → ℕ
lines_of (Gps table) = table.satellites
lines_of (Mixed table) = table.satellites
