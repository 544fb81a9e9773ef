-- The differences of the labels of two files (this project's rule).
use Rattle.std.specs.Prelude.{ℕ, nat_lt, List, ◌++◌, length, bytes_eq}
use Rattle.rtk_label.specs.Labelled.{LabelView}
use Rattle.rtk_compare.specs.declared.difference.What.{What}
use Rattle.rtk_compare.specs.declared.difference.What.TheVariants.{RunBy, MarkerNumber, Observer, Agency, ReceiverNumber, ReceiverType, ReceiverVersion, AntennaNumber, AntennaType, DeltaHeight, DeltaEast, DeltaNorth}
use Rattle.rtk_compare.specs.declared.difference.Difference.{Difference}
use Rattle.rtk_compare.specs.Headers.{lines_of}

abbrev pub field_lines : What → List ℕ → List ℕ → List Difference
field_lines what old new = lines_of (nat_lt 0 (length old)) (nat_lt 0 (length new)) (bytes_eq old new) what

-- table
-- the differences of what the two labels say of the station and of who made the file
abbrev pub label_lines_of_station : LabelView → LabelView → List Difference
label_lines_of_station l m =
    field_lines RunBy l.run_by m.run_by
    ++ field_lines MarkerNumber l.marker_number m.marker_number
    ++ field_lines Observer l.observer m.observer
    ++ field_lines Agency l.agency m.agency

-- table
-- the differences of what they say of the receiver
abbrev pub label_lines_of_receiver : LabelView → LabelView → List Difference
label_lines_of_receiver l m =
    field_lines ReceiverNumber l.receiver_number m.receiver_number
    ++ field_lines ReceiverType l.receiver_type m.receiver_type
    ++ field_lines ReceiverVersion l.receiver_version m.receiver_version

-- table
-- the differences of what they say of the antenna
abbrev pub label_lines_of_antenna : LabelView → LabelView → List Difference
label_lines_of_antenna l m =
    field_lines AntennaNumber l.antenna_number m.antenna_number
    ++ field_lines AntennaType l.antenna_type m.antenna_type
    ++ field_lines DeltaHeight l.height m.height
    ++ field_lines DeltaEast l.east m.east
    ++ field_lines DeltaNorth l.north m.north

-- the differences of two labels
abbrev pub label_lines : LabelView → LabelView → List Difference
label_lines l m = label_lines_of_station l m ++ label_lines_of_receiver l m ++ label_lines_of_antenna l m
