-- A file in the parts that a label tells apart, of GPS or of any systems.
use Rattle.std.specs.Prelude.{◌≡◌, ◌≤◌, ℕ, List, [], ◌++◌, length, flat_map, codes, Option, IfSome}
use Rattle.rtk_obs.specs.declared.time.Civil.{Civil}
use Rattle.rtk_rinex.specs.Header.{PositionView, IsMarker, IsPositionView, header_line, types_lines, last_lines, unit_line, first_line}
use Rattle.rtk_rinex.specs.MixedHeader.{version_letter, by_system, system_types_lines, phase_shift_line, glonass_lines}
use Rattle.rtk_obs.specs.Reading.{IsMoment, reading_of}
use Rattle.rtk_rinex.specs.Record.{record_text}
use Rattle.rtk_rinex.specs.MixedRecord.{mixed_record_text}
use Rattle.rtk_rinex.specs.Table.{WellFormedTable}
use Rattle.rtk_rinex.specs.MixedTable.{MixedTable}
use Rattle.rtk_label.specs.Fields.{marker_number_line}
use Rattle.rtk_label.specs.Labelled.{LabelView, IsLabel, IsFor, blank_label, top_lines, middle_lines}
use Rattle.rtk_label.specs.TimeLines.{extent_lines}
use Rattle.rtk_label.specs.Steps.Told.{HasNoTimeLine}
use Rattle.rtk_label.specs.declared.time_lines.TimeLines.{TimeLines}

-- the letter of its system, or M, its marker, when it was made, its position, and what stands after the lines
-- that a label changes
pub record FileParts : Type 0 where
  pub letter : ℕ
  pub marker : List ℕ
  pub made : Civil
  pub site : PositionView
  pub rest : List ℕ

-- a good marker, a good position, and a line more
pub record AreFileParts (p : FileParts) : Type 0 where
  pub marker : IsMarker p.marker
  pub site : IsPositionView p.site
  pub more : 81 ≤ length p.rest

-- the text of these parts with a label
abbrev pub text_of_parts : LabelView → FileParts → List ℕ
text_of_parts l p = top_lines p.letter l.run_by p.marker p.made ++ (marker_number_line l.marker_number ++ (middle_lines l p.site ++ p.rest))

-- the parts with further lines after those that a label changes
abbrev pub with_lines : List ℕ → FileParts → FileParts
with_lines lines p = record { letter = p.letter; marker = p.marker; made = p.made; site = p.site; rest = lines ++ p.rest }

abbrev pub parts_of : WellFormedTable → FileParts
parts_of t =
    record {
      letter = 71;
      marker = t.head.marker;
      made = reading_of t.head.made;
      site = t.site;
      rest = (types_lines t.head.listed ++ last_lines (reading_of t.first)) ++ flat_map record_text t.epochs;
    }

abbrev pub mixed_parts_of : MixedTable → FileParts
mixed_parts_of t =
    record {
      letter = version_letter t.head.listed;
      marker = t.head.marker;
      made = reading_of t.head.made;
      site = t.site;
      rest = (by_system (system_types_lines t.head.doppler) t.head.listed ++ unit_line ++ first_line (reading_of t.first) ++ by_system phase_shift_line t.head.listed
          ++ glonass_lines t.head.glonass ++ header_line [] (codes "END OF HEADER"))
          ++ flat_map (mixed_record_text t.head.doppler) t.epochs;
    }

-- if the plain text is that of parts, the text is that of these parts with the label and with these lines
abbrev pub WasOfParts : List ℕ → List ℕ → LabelView → List ℕ → Type 0
WasOfParts text plain l lines =
    (p : FileParts) → AreFileParts p → plain ≡ text_of_parts blank_label p → (text ≡ text_of_parts l (with_lines lines p)) × IsFor l p.site

-- if the text is that of parts with a label and with time lines, the plain text is that of these parts, and the label and
-- the lines are these
abbrev pub IsOfEveryParts : List ℕ → List ℕ → LabelView → TimeLines → List ℕ → Type 0
IsOfEveryParts text plain l w lines =
    (p : FileParts) (m : LabelView) (v : TimeLines) (interval last : Option ℕ) → AreFileParts p → HasNoTimeLine p.rest → IsLabel m → IsFor m p.site → IfSome last IsMoment
    → text ≡ text_of_parts m (with_lines (extent_lines v interval last) p)
    → (plain ≡ text_of_parts blank_label p) × (l ≡ m) × (lines ≡ extent_lines v interval last) × (extent_lines w interval last ≡ lines)

-- if a text of parts with a label begins with this text, the text of these parts begins with the plain text
abbrev pub BeginsEveryParts : List ℕ → List ℕ → Type 0
BeginsEveryParts text plain =
    (p : FileParts) (m : LabelView) (rest : List ℕ) → AreFileParts p → IsLabel m → IsFor m p.site → text ++ rest ≡ text_of_parts m p
    → (end : List ℕ) × (plain ++ end ≡ text_of_parts blank_label p)
