-- What columns of a text show of a label.
use Rattle.std.specs.Prelude.{◌≡◌, ◌<◌, ◌≤◌, ℕ, ◌+◌, List, length, take, drop}
use Rattle.rtk_rinex.specs.Columns.{left, right, IsField}
use Rattle.rtk_label.specs.Fields.{IsSigned, IsOffset, marker_number_line}
use Rattle.rtk_label.specs.Labelled.{LabelView, IsLabel}

-- the field whose columns these are; a blank one if they are the columns of none
pub record IsFieldIn (width : ℕ) (columns field : List ℕ) : Type 0 where
  pub good : IsField width field
  pub some : 0 < length field → columns ≡ left width field
  pub all : (g : List ℕ) → IsField width g → columns ≡ left width g → field ≡ g

-- the offset whose columns these are; a blank one if they are the columns of none
pub record IsOffsetIn (columns field : List ℕ) : Type 0 where
  pub good : IsOffset field
  pub some : 0 < length field → columns ≡ right 14 field
  pub all : (g : List ℕ) → IsSigned g → columns ≡ right 14 g → field ≡ g

-- the marker's number whose line this is; a blank one if it is the line of none
pub record IsNumberIn (line field : List ℕ) : Type 0 where
  pub good : IsField 20 field
  pub some : 0 < length field → line ≡ marker_number_line field
  pub all : (g : List ℕ) → IsField 20 g → 0 < length g → line ≡ marker_number_line g → field ≡ g

-- the label that three lines, a marker's number and six lines show
pub record IsLabelIn (top number middle : List ℕ) (l : LabelView) : Type 0 where
  pub run_by : IsFieldIn 20 (take 20 (drop 101 top)) l.run_by
  pub marker_number : l.marker_number ≡ number
  pub observer : IsFieldIn 20 (take 20 (drop 81 middle)) l.observer
  pub agency : IsFieldIn 40 (take 40 (drop 101 middle)) l.agency
  pub receiver_number : IsFieldIn 20 (take 20 (drop 162 middle)) l.receiver_number
  pub receiver_type : IsFieldIn 20 (take 20 (drop 182 middle)) l.receiver_type
  pub receiver_version : IsFieldIn 20 (take 20 (drop 202 middle)) l.receiver_version
  pub antenna_number : IsFieldIn 20 (take 20 (drop 243 middle)) l.antenna_number
  pub antenna_type : IsFieldIn 20 (take 20 (drop 263 middle)) l.antenna_type
  pub height : IsOffsetIn (take 14 (drop 405 middle)) l.height
  pub east : IsOffsetIn (take 14 (drop 419 middle)) l.east
  pub north : IsOffsetIn (take 14 (drop 433 middle)) l.north

-- what is read of a text of ten lines at least: a marker's number, and so where its six lines begin; and its label
pub record IsRead (text number : List ℕ) (from : ℕ) (l : LabelView) : Type 0 where
  pub long : 810 ≤ length text
  pub line : IsNumberIn (take 81 (drop 243 text)) number
  pub blank : length number ≡ 0 → from ≡ 0
  pub filled : 0 < length number → from ≡ 81
  pub label : IsLabelIn (take 243 text) number (take 486 (drop (from + 243) text)) l
  pub good : IsLabel l
