-- What messages told gives a label: each field fits its columns.
use Rattle.std.proofs.Common.{◌≡◌, ◌≢◌, ◌≤◌, ℕ, ◌-◌, ◌==◌, Bool, true, false, not, ◌&&◌, nat_le, nat_lt, List, [], ◌∷◌, length, get_or, slice_get, Option, None, Some, All, if◌then◌else◌, refl, sym, ap, ◌∙◌, arith}
use Rattle.std.specs.Int.{IsInRange}
use Rattle.std.specs.List.{list_all}
use Rattle.std.proofs.lemmas.Bool.{and_parts, eq-eqb}
use Rattle.std.proofs.lemmas.Bool.Decides.{nat_tests}
use Rattle.std.proofs.lemmas.List.Elements.{All-nil, All-cons}
use Rattle.std.proofs.lemmas.Option.{get_or_from_slice_get}
use Rattle.arrayvec.specs.ArrayVec.{ArrayVec}
use Rattle.rtk_survey.specs.declared.equipment.Equipment.{Equipment}
use Rattle.rtk_rinex.specs.Columns.{IsField}
use Rattle.rtk_label.specs.Fields.{IsOffset}
use Rattle.rtk_label.specs.Labelled.{LabelView, IsLabel}
use Rattle.rtk_label.specs.LabelFault.{IsLabelFault}
use Rattle.rtk_label.specs.declared.label_fault.LabelFault.{LabelFault}
use Rattle.rtk_label.specs.declared.label_fault.LabelFault.TheVariants.{RunBy, MarkerNumber, Observer, Agency, ReceiverNumber, ReceiverType, ReceiverVersion, AntennaNumber, AntennaType, DeltaHeight, DeltaEast, DeltaNorth}
use Rattle.rtk_plan.specs.ToldLabel.{trimmed, is_printed, fits_field, is_null_told, field_told, antenna_field, label_told}

in-range : (x : ℕ) → is_printed x ≡ true → IsInRange 32 126 x
in-range x h =
    let both = and_parts (nat_le 32 x) (nat_le x 126) h in
    let least : 32 ≤ x = grind (arith, nat_tests, both.0) in
    let most : x ≤ 126 = grind (arith, nat_tests, both.1) in
    (least, most)

all-in-range : (text : List ℕ) → list_all is_printed text ≡ true → All (λ x. IsInRange 32 126 x) text
all-in-range [] h = All-nil (λ x. IsInRange 32 126 x)
all-in-range (x ∷ xs) h =
    let both = and_parts (is_printed x) (list_all is_printed xs) h in
    All-cons (λ y. IsInRange 32 126 y) x xs (in-range x both.0) (all-in-range xs both.1)

-- the character at a place is no blank
no-blank : (text : List ℕ) (k : ℕ) → not (get_or text k 0 == 32) ≡ true → slice_get text k ≢ Some 32
no-blank text k h e =
    let is : get_or text k 0 ≡ 32 = get_or_from_slice_get text k 32 0 e in
    let apart : false ≡ true = ap not (sym (eq-eqb (get_or text k 0) 32 is)) ∙ h in
    cc

fits-columns : (text : List ℕ) → fits_field text ≡ true → IsField 20 text
fits-columns text h =
    let first = not (get_or text 0 0 == 32) in
    let last = not (get_or text (length text - 1) 0 == 32) in
    let printed = list_all is_printed text in
    let filled = and_parts (nat_lt 0 (length text)) (nat_le (length text) 20 && (printed && (first && last))) h in
    let short = and_parts (nat_le (length text) 20) (printed && (first && last)) filled.1 in
    let shown = and_parts printed (first && last) short.1 in
    let ends = and_parts first last shown.1 in
    let most : length text ≤ 20 = grind (arith, nat_tests, short.0) in
    (most, all-in-range text shown.0, no-blank text 0 ends.0, no-blank text (length text - 1) ends.1)

none_some : (x : ℕ) → None ≡ Some x → ⊥
none_some x h = cc

blank-field : (width : ℕ) → IsField width []
blank-field width = (omega arith, All-nil (λ x. IsInRange 32 126 x), none_some 32, none_some 32)

blank-offset : IsOffset []
blank-offset h = absurd (omega (arith, h))

chosen : (text : List ℕ) (fits : Bool) → fits_field text ≡ fits → IsField 20 (if fits then text else [])
chosen text true h = fits-columns text h
chosen text false h = blank-field 20

field-fits : (text : Option (ArrayVec ℕ)) → IsField 20 (field_told text)
field-fits None = blank-field 20
field-fits (Some text) = chosen (trimmed text.items) (fits_field (trimmed text.items)) refl

unless : (is_none : Bool) (text : Option (ArrayVec ℕ)) → IsField 20 (if is_none then [] else field_told text)
unless true text = blank-field 20
unless false text = field-fits text

antenna-fits : (e : Equipment) (text : Option (ArrayVec ℕ)) → IsField 20 (antenna_field e text)
antenna-fits e text = unless (is_null_told e.antenna_type.last) text

told-is-label : (e : Equipment) → IsLabel (label_told e)
told-is-label e = record {
  run_by = blank-field 20;
  marker_number = blank-field 20;
  observer = blank-field 20;
  agency = blank-field 40;
  receiver_number = field-fits e.receiver_serial.last;
  receiver_type = field-fits e.receiver_type.last;
  receiver_version = field-fits e.receiver_version.last;
  antenna_number = antenna-fits e e.antenna_serial.last;
  antenna_type = antenna-fits e e.antenna_type.last;
  height = blank-offset;
  east = blank-offset;
  north = blank-offset;
}

no-fault : (l : LabelView) (f : LabelFault) → IsLabel l → IsLabelFault l f → ⊥
no-fault l RunBy is fault = fault.1 is.run_by
no-fault l MarkerNumber is fault = fault.1 is.marker_number
no-fault l Observer is fault = fault.1 is.observer
no-fault l Agency is fault = fault.1 is.agency
no-fault l ReceiverNumber is fault = fault.1 is.receiver_number
no-fault l ReceiverType is fault = fault.1 is.receiver_type
no-fault l ReceiverVersion is fault = fault.1 is.receiver_version
no-fault l AntennaNumber is fault = fault.1 is.antenna_number
no-fault l AntennaType is fault = fault.1 is.antenna_type
no-fault l DeltaHeight is fault = fault.1 is.height
no-fault l DeltaEast is fault = fault.1 is.east
no-fault l DeltaNorth is fault = fault.1 is.north

-- what messages told has no field that does not fit
pub told-fits : (e : Equipment) (f : LabelFault) → IsLabelFault (label_told e) f → ⊥
told-fits e f = no-fault (label_told e) f (told-is-label e)
