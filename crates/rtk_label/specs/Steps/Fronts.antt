-- The lines of a header that a label changes, with other columns: three lines of 81 bytes, then six.
use Rattle.std.specs.Prelude.{ℕ, ◌+◌, ◌==◌, List, [], ◌∷◌, ◌++◌, length, take, drop, codes, pos, replicate, if◌then◌else◌}
use Rattle.rtk_obs.specs.declared.code.Code.TheVariants.{G1C}
use Rattle.rtk_rinex.specs.Columns.{left, right}
use Rattle.rtk_rinex.specs.Header.{header_text}
use Rattle.rtk_label.specs.Fields.{offset_columns, marker_number_line}
use Rattle.rtk_label.specs.Labelled.{LabelView}

-- the columns of the antenna's height: these, or the label's
abbrev pub filled_height : List ℕ → List ℕ → List ℕ
filled_height text columns = if length text == 0 then columns else right 14 text

-- three lines with the fields of a label
abbrev pub filled_top : LabelView → List ℕ → List ℕ
filled_top l top = take 101 top ++ left 20 l.run_by ++ take 122 (drop 121 top)

-- six lines with the fields of a label
abbrev pub filled_middle : LabelView → List ℕ → List ℕ
filled_middle l m =
    take 81 m ++ left 20 l.observer ++ left 40 l.agency ++ take 21 (drop 141 m)
    ++ left 20 l.receiver_number ++ left 20 l.receiver_type ++ left 20 l.receiver_version ++ take 21 (drop 222 m)
    ++ left 20 l.antenna_number ++ left 20 l.antenna_type ++ take 122 (drop 283 m)
    ++ filled_height l.height (take 14 (drop 405 m)) ++ offset_columns l.east ++ offset_columns l.north ++ take 39 (drop 447 m)

-- the first nine lines of a plain text with the fields of a label
abbrev pub filled_front : LabelView → List ℕ → List ℕ
filled_front l text = filled_top l (take 243 text) ++ marker_number_line l.marker_number ++ filled_middle l (take 486 (drop 243 text))

-- the columns of a field: blanks if it shows, else as they are
abbrev pub plain_columns : ℕ → List ℕ → List ℕ → List ℕ
plain_columns width field columns = if length field == 0 then columns else replicate width 32

-- the columns of an offset: 0 if it shows, else as they are
abbrev pub plain_offset : List ℕ → List ℕ → List ℕ
plain_offset field columns = if length field == 0 then columns else codes "        0.0000"

-- three lines without the fields of a label
abbrev pub plain_top : LabelView → List ℕ → List ℕ
plain_top l top = take 101 top ++ plain_columns 20 l.run_by (take 20 (drop 101 top)) ++ take 122 (drop 121 top)

-- six lines without the fields of a label
abbrev pub plain_middle : LabelView → List ℕ → List ℕ
plain_middle l m =
    take 81 m ++ plain_columns 20 l.observer (take 20 (drop 81 m)) ++ plain_columns 40 l.agency (take 40 (drop 101 m)) ++ take 21 (drop 141 m)
    ++ plain_columns 20 l.receiver_number (take 20 (drop 162 m)) ++ plain_columns 20 l.receiver_type (take 20 (drop 182 m))
    ++ plain_columns 20 l.receiver_version (take 20 (drop 202 m)) ++ take 21 (drop 222 m)
    ++ plain_columns 20 l.antenna_number (take 20 (drop 243 m)) ++ plain_columns 20 l.antenna_type (take 20 (drop 263 m)) ++ take 122 (drop 283 m)
    ++ plain_offset l.height (take 14 (drop 405 m)) ++ plain_offset l.east (take 14 (drop 419 m)) ++ plain_offset l.north (take 14 (drop 433 m))
    ++ take 39 (drop 447 m)

-- nine lines of a text without the fields of a label: its first three, and six after so many bytes
abbrev pub plain_front : List ℕ → ℕ → LabelView → List ℕ
plain_front text from l = plain_top l (take 243 text) ++ plain_middle l (take 486 (drop (from + 243) text))

-- table
-- a file without a label and without a record
abbrev pub plain_file : List ℕ
plain_file =
    header_text (record { marker = codes "-"; listed = G1C ∷ []; made = 0 }) (record { x = pos 0; y = pos 0; z = pos 0; height = 0 }) 0
