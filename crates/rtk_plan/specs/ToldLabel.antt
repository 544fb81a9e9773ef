-- The label of what messages told of a station (this project's rule): a field is the text that was told last, if it fits.
use Rattle.std.specs.Prelude.{ℕ, ◌-◌, ◌==◌, Bool, false, not, ◌&&◌, ◌||◌, nat_eq, nat_le, nat_lt, List, [], ◌∷◌, length, take, get_or, codes, Option, None, Some, if◌then◌else◌}
use Rattle.std.specs.List.{list_all, starts_with, suffix_len}
use Rattle.arrayvec.specs.ArrayVec.{ArrayVec}
use Rattle.rtk_survey.specs.declared.equipment.Equipment.{Equipment}
use Rattle.rtk_label.specs.Labelled.{LabelView}

-- constant
abbrev pub is_blank : ℕ → Bool
is_blank byte = byte == 32

-- formula
-- a text without the blanks at its begin, at its end, and at both
abbrev pub without_leading : List ℕ → List ℕ
without_leading [] = []
without_leading (x ∷ xs) = if is_blank x then without_leading xs else x ∷ xs

abbrev pub without_trailing : List ℕ → List ℕ
without_trailing text = take (length text - suffix_len is_blank text) text

abbrev pub trimmed : List ℕ → List ℕ
trimmed text = without_trailing (without_leading text)

-- constant
-- from blank to tilde
abbrev pub is_printed : ℕ → Bool
is_printed byte = nat_le 32 byte && nat_le byte 126

-- constant
-- a text for the 20 columns of a field (A20): the first and the last character are no blank
-- Source: RINEX 3.05, Table A2
abbrev pub fits_field : List ℕ → Bool
fits_field text =
    nat_lt 0 (length text)
    && (nat_le (length text) 20
    && (list_all is_printed text && (not (get_or text 0 0 == 32) && not (get_or text (length text - 1) 0 == 32))))

-- constant
-- names of an antenna that stands for none, alone or before a blank
abbrev pub is_null_antenna : List ℕ → Bool
is_null_antenna text =
    (starts_with nat_eq text (codes "GPPNULLANTENNA") || starts_with nat_eq text (codes "ADVNULLANTENNA")) && (get_or text 14 32 == 32)

abbrev pub is_null_told : Option (ArrayVec ℕ) → Bool
is_null_told None = false
is_null_told (Some text) = is_null_antenna (trimmed text.items)

-- formula
-- the field of a text that is trimmed, blank if it does not fit
abbrev pub field_if_fits : List ℕ → List ℕ
field_if_fits text = if fits_field text then text else []

-- the field of a text: senders pad it with blanks
abbrev pub field_of : List ℕ → List ℕ
field_of text = field_if_fits (trimmed text)

abbrev pub field_told : Option (ArrayVec ℕ) → List ℕ
field_told None = []
field_told (Some text) = field_of text.items

-- formula
-- the field of an antenna, blank if it stands for none
abbrev pub antenna_field : Equipment → Option (ArrayVec ℕ) → List ℕ
antenna_field e text = if is_null_told e.antenna_type.last then [] else field_told text

-- table
-- the fields
abbrev pub label_told : Equipment → LabelView
label_told e =
    record {
      run_by = [];
      marker_number = [];
      observer = [];
      agency = [];
      receiver_number = field_told e.receiver_serial.last;
      receiver_type = field_told e.receiver_type.last;
      receiver_version = field_told e.receiver_version.last;
      antenna_number = antenna_field e e.antenna_serial.last;
      antenna_type = antenna_field e e.antenna_type.last;
      height = [];
      east = [];
      north = [];
    }

-- no field of those that messages tell is filled
abbrev pub is_untold : LabelView → Bool
is_untold l =
    (length l.antenna_type == 0)
    && ((length l.antenna_number == 0)
    && ((length l.receiver_type == 0) && ((length l.receiver_version == 0) && (length l.receiver_number == 0))))

-- formula
-- the label, if a field is filled
abbrev pub label_if_any : Equipment → Option LabelView
label_if_any e = if is_untold (label_told e) then None else Some (label_told e)
