-- The header of an observation file of GPS or of any systems with the fields of a label (RINEX 3.05, Table
-- A2). The header of a conversion is the one whose label is blank.
-- Source: RINEX 3.05, Table A2
use Rattle.std.specs.Prelude.{◌≡◌, ◌<◌, ℕ, ◌==◌, List, [], ◌++◌, length, drop, codes, flat_map, pos, if◌then◌else◌}
use Rattle.rtk_obs.specs.declared.time.Civil.{Civil}
use Rattle.rtk_rinex.specs.Columns.{left, right, fixed, IsField}
use Rattle.rtk_rinex.specs.Header.{HeadView, PositionView, header_line, made_text, types_lines, last_lines, unit_line, first_line}
use Rattle.rtk_rinex.specs.MixedHead.{MixedHeadView}
use Rattle.rtk_rinex.specs.MixedHeader.{version_letter, mixed_version_line, by_system, system_types_lines, phase_shift_line, glonass_lines}
use Rattle.rtk_obs.specs.Reading.{reading_of}
use Rattle.rtk_rinex.specs.Record.{record_text}
use Rattle.rtk_rinex.specs.MixedRecord.{mixed_record_text}
use Rattle.rtk_rinex.specs.Table.{WellFormedTable, table_text}
use Rattle.rtk_rinex.specs.MixedTable.{MixedTable, mixed_table_text}
use Rattle.rtk_label.specs.Fields.{IsOffset, offset_columns, marker_number_line}

-- the fields of a header that no message of the stream tells; no characters stand for a blank field
pub record LabelView : Type 0 where
  pub run_by : List ℕ
  pub marker_number : List ℕ
  pub observer : List ℕ
  pub agency : List ℕ
  pub receiver_number : List ℕ
  pub receiver_type : List ℕ
  pub receiver_version : List ℕ
  pub antenna_number : List ℕ
  pub antenna_type : List ℕ
  pub height : List ℕ
  pub east : List ℕ
  pub north : List ℕ

-- table
-- all fields are blank
abbrev pub blank_label : LabelView
blank_label =
    record {
      run_by = [];
      marker_number = [];
      observer = [];
      agency = [];
      receiver_number = [];
      receiver_type = [];
      receiver_version = [];
      antenna_number = [];
      antenna_type = [];
      height = [];
      east = [];
      north = [];
    }

-- table
-- each field fits its columns
pub record IsLabel (l : LabelView) : Type 0 where
  pub run_by : IsField 20 l.run_by
  pub marker_number : IsField 20 l.marker_number
  pub observer : IsField 20 l.observer
  pub agency : IsField 40 l.agency
  pub receiver_number : IsField 20 l.receiver_number
  pub receiver_type : IsField 20 l.receiver_type
  pub receiver_version : IsField 20 l.receiver_version
  pub antenna_number : IsField 20 l.antenna_number
  pub antenna_type : IsField 20 l.antenna_type
  pub height : IsOffset l.height
  pub east : IsOffset l.east
  pub north : IsOffset l.north

-- formula
-- a label with an antenna height is only for a file whose stream told none (this project's rule)
abbrev pub IsFor : LabelView → PositionView → Type 0
IsFor l s = 0 < length l.height → s.height ≡ 0

-- formula
-- the columns of the antenna's height (F14.4, in m): the label's, or else the stream's
abbrev pub height_columns : List ℕ → PositionView → List ℕ
height_columns text s = if length text == 0 then fixed 4 14 (pos s.height) else right 14 text

-- formula
-- the three lines before the marker's number, by the letter of the file's system, or M for several
abbrev pub top_lines : ℕ → List ℕ → List ℕ → Civil → List ℕ
top_lines letter run_by marker made =
    mixed_version_line letter
    ++ header_line (codes "rtcm2rinex          " ++ left 20 run_by ++ made_text made) (codes "PGM / RUN BY / DATE")
    ++ header_line marker (codes "MARKER NAME")

-- formula
-- the six lines after the marker's number: who observes (A20, A40), the receiver (3A20), the antenna
-- (2A20), its place (3F14.4) and its offsets (3F14.4)
abbrev pub middle_lines : LabelView → PositionView → List ℕ
middle_lines l s =
    header_line (codes "GEODETIC") (codes "MARKER TYPE")
    ++ header_line (left 20 l.observer ++ left 40 l.agency) (codes "OBSERVER / AGENCY")
    ++ header_line (left 20 l.receiver_number ++ left 20 l.receiver_type ++ left 20 l.receiver_version) (codes "REC # / TYPE / VERS")
    ++ header_line (left 20 l.antenna_number ++ left 20 l.antenna_type) (codes "ANT # / TYPE")
    ++ header_line (fixed 4 14 s.x ++ fixed 4 14 s.y ++ fixed 4 14 s.z) (codes "APPROX POSITION XYZ")
    ++ header_line (height_columns l.height s ++ offset_columns l.east ++ offset_columns l.north) (codes "ANTENNA: DELTA H/E/N")

-- ---- a file of GPS

-- the lines that a label changes
abbrev pub front_lines : LabelView → HeadView → PositionView → List ℕ
front_lines l h s = top_lines 71 l.run_by h.marker (reading_of h.made) ++ marker_number_line l.marker_number ++ middle_lines l s

-- formula
-- the header of a label, a head, a position and the moment of the first observation
unfoldable pub labelled_header : LabelView → HeadView → PositionView → ℕ → List ℕ
labelled_header l h s first =
    top_lines 71 l.run_by h.marker (reading_of h.made)
    ++ marker_number_line l.marker_number
    ++ middle_lines l s
    ++ types_lines h.listed
    ++ last_lines (reading_of first)

-- the text of a table with a label: this header, then a record for each epoch
abbrev pub labelled_text : LabelView → WellFormedTable → List ℕ
labelled_text l t = labelled_header l t.head t.site t.first ++ flat_map record_text t.epochs

-- the same with further lines after those that the label changes; after them come the lines of the table behind its
-- first nine
abbrev pub labelled_with : List ℕ → LabelView → WellFormedTable → List ℕ
labelled_with lines l t = front_lines l t.head t.site ++ lines ++ drop 729 (table_text t)

-- ---- a file of any systems

-- the lines that a label changes
abbrev pub mixed_front_lines : LabelView → MixedHeadView → PositionView → List ℕ
mixed_front_lines l h s = top_lines (version_letter h.listed) l.run_by h.marker (reading_of h.made) ++ marker_number_line l.marker_number ++ middle_lines l s

-- formula
-- the header of a label, a head, a position and the moment of the first observation
unfoldable pub labelled_mixed_header : LabelView → MixedHeadView → PositionView → ℕ → List ℕ
labelled_mixed_header l h s first =
    top_lines (version_letter h.listed) l.run_by h.marker (reading_of h.made)
    ++ marker_number_line l.marker_number
    ++ middle_lines l s
    ++ by_system (system_types_lines h.doppler) h.listed
    ++ unit_line
    ++ first_line (reading_of first)
    ++ by_system phase_shift_line h.listed
    ++ glonass_lines h.glonass
    ++ header_line [] (codes "END OF HEADER")

-- the text of a table with a label
abbrev pub labelled_mixed_text : LabelView → MixedTable → List ℕ
labelled_mixed_text l t = labelled_mixed_header l t.head t.site t.first ++ flat_map (mixed_record_text t.head.doppler) t.epochs

-- the same with further lines after those that the label changes
abbrev pub labelled_mixed_with : List ℕ → LabelView → MixedTable → List ℕ
labelled_mixed_with lines l t = mixed_front_lines l t.head t.site ++ lines ++ drop 729 (mixed_table_text t)
