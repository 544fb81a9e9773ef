-- What is written of a label and a file, and what a label that was taken out of a text leaves. A text
-- is the text of one well-formed table at most, so the table is the one whose text it is.
use Rattle.std.specs.Prelude.{◌≡◌, ◌≢◌, ◌<◌, ℕ, ◌+◌, ◌-◌, ◌*◌, ◌/◌, nat_le, List, [], ◌++◌, length, take, drop, Option, IfSome, if◌then◌else◌}
use Rattle.rtk_frame.specs.Stream.{with_more, TakesPart}
use Rattle.rtk_obs.specs.Reading.{IsMoment}
use Rattle.rtk_rinex.specs.Table.{WellFormedTable, IsWellFormedTable, table_text}
use Rattle.rtk_rinex.specs.MixedTable.{MixedTable, IsMixedTable, mixed_table_text}
use Rattle.rtk_label.specs.Labelled.{LabelView, IsLabel, IsFor, front_lines, labelled_text, labelled_with, mixed_front_lines, labelled_mixed_text, labelled_mixed_with}
use Rattle.rtk_label.specs.TimeLines.{extent_lines}
use Rattle.rtk_label.specs.declared.time_lines.TimeLines.{TimeLines}

-- the label is for the table whose text this is
abbrev pub IsForText : LabelView → List ℕ → Type 0
IsForText l text = (t : WellFormedTable) → IsWellFormedTable t → text ≡ table_text t → IsFor l t.site

-- the table whose text this is was written with the label: before, after
abbrev pub WritesLabelled : List ℕ → LabelView → Option (List ℕ) → Option (List ℕ) → Type 0
WritesLabelled text l before after =
    (t : WellFormedTable) → IsWellFormedTable t → text ≡ table_text t → after ≡ with_more before (labelled_text l t)

-- of this text a first part was written, perhaps none or all of it
abbrev pub WritesFirstLabelled : List ℕ → LabelView → Option (List ℕ) → Option (List ℕ) → Type 0
WritesFirstLabelled text l before after =
    (t : WellFormedTable) → IsWellFormedTable t → text ≡ table_text t → TakesPart before after (labelled_text l t)

-- of the table whose text this is the lines were written that the label changes
abbrev pub WritesFront : List ℕ → LabelView → Option (List ℕ) → Option (List ℕ) → Type 0
WritesFront text l before after =
    (t : WellFormedTable) → IsWellFormedTable t → text ≡ table_text t → after ≡ with_more before (front_lines l t.head t.site)

-- of these a first part was written, perhaps none or all of it
abbrev pub WritesFirstOfFront : List ℕ → LabelView → Option (List ℕ) → Option (List ℕ) → Type 0
WritesFirstOfFront text l before after =
    (t : WellFormedTable) → IsWellFormedTable t → text ≡ table_text t → TakesPart before after (front_lines l t.head t.site)

-- the lines that a label makes of the first 729 bytes of a text: if the text of a table begins with these bytes, its text
-- with the label is these lines and the rest of it
pub record IsFilledFront (l : LabelView) (front lines : List ℕ) : Type 0 where
  pub gps : (t : WellFormedTable) → IsWellFormedTable t → take 729 (table_text t) ≡ front → labelled_text l t ≡ lines ++ drop 729 (table_text t)
  pub mixed : (t : MixedTable) → IsMixedTable t → take 729 (mixed_table_text t) ≡ front → labelled_mixed_text l t ≡ lines ++ drop 729 (mixed_table_text t)

-- if the plain text is that of a table, the text is that of this table with the label and with these lines
abbrev pub WasLabelled : List ℕ → List ℕ → LabelView → List ℕ → Type 0
WasLabelled text plain l lines =
    (t : WellFormedTable) → IsWellFormedTable t → plain ≡ table_text t → (text ≡ labelled_with lines l t) × IsFor l t.site

-- if the text is that of a table with a label and with time lines of some interval and moment, the plain text is that of
-- this table, the label is this one, and the lines are these; they are also those of this interval and moment that `w`
-- asks for
abbrev pub IsOfEveryTable : List ℕ → List ℕ → LabelView → TimeLines → List ℕ → Type 0
IsOfEveryTable text plain l w lines =
    (t : WellFormedTable) (m : LabelView) (v : TimeLines) (interval last : Option ℕ) → IsWellFormedTable t → IsLabel m → IsFor m t.site → IfSome last IsMoment
    → text ≡ labelled_with (extent_lines v interval last) m t
    → (plain ≡ table_text t) × (l ≡ m) × (lines ≡ extent_lines v interval last) × (extent_lines w interval last ≡ lines)

-- ---- a file of any systems, as one of GPS

abbrev pub IsForMixedText : LabelView → List ℕ → Type 0
IsForMixedText l text = (t : MixedTable) → IsMixedTable t → text ≡ mixed_table_text t → IsFor l t.site

abbrev pub WritesLabelledMixed : List ℕ → LabelView → Option (List ℕ) → Option (List ℕ) → Type 0
WritesLabelledMixed text l before after =
    (t : MixedTable) → IsMixedTable t → text ≡ mixed_table_text t → after ≡ with_more before (labelled_mixed_text l t)

abbrev pub WritesFirstLabelledMixed : List ℕ → LabelView → Option (List ℕ) → Option (List ℕ) → Type 0
WritesFirstLabelledMixed text l before after =
    (t : MixedTable) → IsMixedTable t → text ≡ mixed_table_text t → TakesPart before after (labelled_mixed_text l t)

abbrev pub WritesMixedFront : List ℕ → LabelView → Option (List ℕ) → Option (List ℕ) → Type 0
WritesMixedFront text l before after =
    (t : MixedTable) → IsMixedTable t → text ≡ mixed_table_text t → after ≡ with_more before (mixed_front_lines l t.head t.site)

abbrev pub WritesFirstOfMixedFront : List ℕ → LabelView → Option (List ℕ) → Option (List ℕ) → Type 0
WritesFirstOfMixedFront text l before after =
    (t : MixedTable) → IsMixedTable t → text ≡ mixed_table_text t → TakesPart before after (mixed_front_lines l t.head t.site)

abbrev pub WasLabelledMixed : List ℕ → List ℕ → LabelView → List ℕ → Type 0
WasLabelledMixed text plain l lines =
    (t : MixedTable) → IsMixedTable t → plain ≡ mixed_table_text t → (text ≡ labelled_mixed_with lines l t) × IsFor l t.site

abbrev pub IsOfEveryMixedTable : List ℕ → List ℕ → LabelView → TimeLines → List ℕ → Type 0
IsOfEveryMixedTable text plain l w lines =
    (t : MixedTable) (m : LabelView) (v : TimeLines) (interval last : Option ℕ) → IsMixedTable t → IsLabel m → IsFor m t.site → IfSome last IsMoment
    → text ≡ labelled_mixed_with (extent_lines v interval last) m t
    → (plain ≡ mixed_table_text t) × (l ≡ m) × (lines ≡ extent_lines v interval last) × (extent_lines w interval last ≡ lines)

-- ---- a text that ends within its first ten lines, of 81 bytes each

-- formula
-- the bytes of its whole lines
abbrev pub whole_len : List ℕ → ℕ
whole_len text = 81 * (length text / 81)

abbrev pub whole_lines : List ℕ → List ℕ
whole_lines text = take (whole_len text) text

-- if the text of a table with a label begins with this text, the text of the table begins with the plain text
abbrev pub BeginsEveryTable : List ℕ → List ℕ → Type 0
BeginsEveryTable text plain =
    (t : WellFormedTable) (m : LabelView) (rest : List ℕ) → IsWellFormedTable t → IsLabel m → IsFor m t.site → text ++ rest ≡ labelled_text m t
    → (end : List ℕ) × (plain ++ end ≡ table_text t)

abbrev pub BeginsEveryMixedTable : List ℕ → List ℕ → Type 0
BeginsEveryMixedTable text plain =
    (t : MixedTable) (m : LabelView) (rest : List ℕ) → IsMixedTable t → IsLabel m → IsFor m t.site → text ++ rest ≡ labelled_mixed_text m t
    → (end : List ℕ) × (plain ++ end ≡ mixed_table_text t)

-- what is left of it: its whole lines without the label, and then the line that is cut, as it is. If the lines without
-- the label begin a file, of GPS or of any systems, the whole lines begin this file with the label; and if the whole lines
-- begin a file with some label, those begin the file. So `check` finds that this line is cut, and no field of a label in a
-- line before; and a wrong line before it stays wrong.
pub record IsCutText (text plain : List ℕ) (l : LabelView) : Type 0 where
  pub lines : List ℕ
  pub parts : plain ≡ lines ++ drop (whole_len text) text
  pub labelled : (rest : List ℕ) → WasLabelled (whole_lines text ++ rest) (lines ++ rest) l []
  pub every : BeginsEveryTable (whole_lines text) lines
  pub labelled_mixed : (rest : List ℕ) → WasLabelledMixed (whole_lines text ++ rest) (lines ++ rest) l []
  pub every_mixed : BeginsEveryMixedTable (whole_lines text) lines

-- a text was parted into a label, time lines and a plain text. If the plain text is that of a table, of GPS or of any
-- systems, the text is that of this table with the label and these lines, and of no other table, label and lines. Else it
-- is that of none.
pub record IsParted (text plain : List ℕ) (l : LabelView) (w : TimeLines) (lines : List ℕ) : Type 0 where
  pub good : IsLabel l
  pub labelled : WasLabelled text plain l lines
  pub every : IsOfEveryTable text plain l w lines
  pub labelled_mixed : WasLabelledMixed text plain l lines
  pub every_mixed : IsOfEveryMixedTable text plain l w lines
  pub cut : length text < 810 → IsCutText text plain l

-- formula
-- the line of a text, by the line of the plain text that is left of it (this project's rule): so many bytes were left
-- out, which are its fourth line (the marker's number), or no line, and these time lines after the next six
abbrev pub line_in_text : ℕ → List ℕ → ℕ → ℕ
line_in_text from lines line =
    if nat_le line 3 then line
    else (if nat_le line 9 then line + (from - length lines) / 81 else line + from / 81)

-- formula
-- the first of the time lines that were taken which is not as it is due, by its number in the text (this project's rule)
pub record IsWrongLine (from : ℕ) (lines due : List ℕ) (line : ℕ) : Type 0 where
  pub wrong : lines ≢ due
  pub first : ¬ (take 81 lines ≡ take 81 due) → line ≡ 10 + (from - length lines) / 81
  pub second : take 81 lines ≡ take 81 due → line ≡ 11 + (from - length lines) / 81
