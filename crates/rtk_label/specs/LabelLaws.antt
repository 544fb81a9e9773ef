-- Laws over the header with fields, of files of GPS and of any systems.
use Rattle.std.specs.Prelude.{◌≡◌, ◌≤◌, ℕ, List, ◌++◌, length, drop}
use Rattle.rtk_rinex.specs.Header.{header_text}
use Rattle.rtk_rinex.specs.MixedHeader.{mixed_header_text}
use Rattle.rtk_rinex.specs.Table.{WellFormedTable, IsWellFormedTable, table_text}
use Rattle.rtk_rinex.specs.MixedTable.{MixedTable, IsMixedTable, mixed_table_text}
use Rattle.rtk_label.specs.Labelled.{LabelView, IsLabel, IsFor, blank_label, front_lines, labelled_header, labelled_text, mixed_front_lines, labelled_mixed_header, labelled_mixed_text}

-- with a blank label the text is that of the file itself
abbrev pub BlankIsFile : Type 0
BlankIsFile = (t : WellFormedTable) → labelled_text blank_label t ≡ table_text t

abbrev pub BlankIsMixedFile : Type 0
BlankIsMixedFile = (t : MixedTable) → labelled_mixed_text blank_label t ≡ mixed_table_text t

-- two labelled texts that are alike are of one label and one table: so the file is found again, and a
-- blank label in place of the label gives it back
abbrev pub LabelsAreTold : Type 0
LabelsAreTold =
    (l m : LabelView) (t u : WellFormedTable) → IsLabel l → IsLabel m → IsFor l t.site → IsFor m u.site
    → IsWellFormedTable t → IsWellFormedTable u
    → labelled_text l t ≡ labelled_text m u → (l ≡ m) × (t ≡ u)

-- two labelled texts of files of any systems that are alike are of one label and of files with one text
abbrev pub MixedLabelsAreTold : Type 0
MixedLabelsAreTold =
    (l m : LabelView) (t u : MixedTable) → IsLabel l → IsLabel m → IsFor l t.site → IsFor m u.site
    → IsMixedTable t → IsMixedTable u
    → labelled_mixed_text l t ≡ labelled_mixed_text m u → (l ≡ m) × (mixed_table_text t ≡ mixed_table_text u)

-- a label changes the first nine lines alone, 729 bytes; these are alike in all tables of one head and
-- one position
abbrev pub FrontIsChanged : Type 0
FrontIsChanged =
    (l : LabelView) (t u : WellFormedTable) → IsWellFormedTable t → u.head ≡ t.head → u.site ≡ t.site
    → labelled_text l u ≡ front_lines l t.head t.site ++ drop 729 (table_text u)

abbrev pub MixedFrontIsChanged : Type 0
MixedFrontIsChanged =
    (l : LabelView) (t u : MixedTable) → IsMixedTable t → u.head ≡ t.head → u.site ≡ t.site
    → labelled_mixed_text l u ≡ mixed_front_lines l t.head t.site ++ drop 729 (mixed_table_text u)

-- what stands after a header stays, and every label has the same text there
pub record KeepsRecords (l : LabelView) (t : WellFormedTable) : Type 0 where
  pub records : List ℕ
  pub plain : table_text t ≡ header_text t.head t.site t.first ++ records
  pub labelled : labelled_text l t ≡ labelled_header l t.head t.site t.first ++ records

abbrev pub RecordsStay : Type 0
RecordsStay = (l : LabelView) (t : WellFormedTable) → KeepsRecords l t

pub record KeepsMixedRecords (l : LabelView) (t : MixedTable) : Type 0 where
  pub records : List ℕ
  pub plain : mixed_table_text t ≡ mixed_header_text t.head t.site t.first ++ records
  pub labelled : labelled_mixed_text l t ≡ labelled_mixed_header l t.head t.site t.first ++ records

abbrev pub MixedRecordsStay : Type 0
MixedRecordsStay = (l : LabelView) (t : MixedTable) → KeepsMixedRecords l t

-- these laws of files of any systems
pub record MixedLabelLaws : Type 0 where
  pub blank : BlankIsMixedFile
  pub told : MixedLabelsAreTold
  pub front : MixedFrontIsChanged
  pub records : MixedRecordsStay

-- the text of a table has ten lines of 81 bytes at least
pub record FilesAreLong : Type 0 where
  pub gps : (t : WellFormedTable) → IsWellFormedTable t → 810 ≤ length (table_text t)
  pub mixed : (t : MixedTable) → IsMixedTable t → 810 ≤ length (mixed_table_text t)
