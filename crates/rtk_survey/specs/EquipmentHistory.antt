-- What messages told last of the antenna and the receiver of a station, and how often another value
-- than before was told (this project's rule). Lists of messages are newest first.
use Rattle.std.specs.Prelude.{ℕ, ◌+◌, ◌==◌, Bool, not, false, nat_eq, min, List, [], ◌∷◌, Option, None, Some, is_some, if◌then◌else◌}
use Rattle.std.specs.Cmp.Lexicographic.{pointwise}
use Rattle.arrayvec.specs.ArrayVec.{ArrayVec}
use Rattle.rtk_survey.specs.declared.equipment.Equipment.{Equipment}
use Rattle.rtk_survey.specs.declared.equipment.SetupHistory.{SetupHistory}
use Rattle.rtk_survey.specs.declared.equipment.TextHistory.{TextHistory}
use Rattle.rtk_survey.specs.declared.equipment_message.Antenna.{Antenna}
use Rattle.rtk_survey.specs.declared.equipment_message.Receiver.{Receiver}
use Rattle.rtk_survey.specs.declared.equipment_message.EquipmentMessage.{EquipmentMessage}

-- ---- one field

-- formula
-- one more, if this is a change; the count stays at the greatest value of a u64
abbrev pub with_change : Bool → ℕ → ℕ
with_change is_change n = if is_change then min (n + 1) 18_446_744_073_709_551_615 else n

-- a text is another one than the last; the first differs from none
abbrev pub is_other_text : Option (ArrayVec ℕ) → ArrayVec ℕ → Bool
is_other_text None text = false
is_other_text (Some last) text = not (pointwise nat_eq last.items text.items)

-- a text that later messages told, if they did, is another one than the last
abbrev pub is_other_if_told : Option (ArrayVec ℕ) → Option (ArrayVec ℕ) → Bool
is_other_if_told last None = false
is_other_if_told last (Some later) = is_other_text last later

abbrev pub no_text : TextHistory
no_text = record { last = None; changes = 0 }

-- a text is told
abbrev pub with_text : ArrayVec ℕ → TextHistory → TextHistory
with_text text t = record { last = Some text; changes = with_change (is_other_text t.last text) t.changes }

abbrev pub with_text_if_any : Option (ArrayVec ℕ) → TextHistory → TextHistory
with_text_if_any None t = t
with_text_if_any (Some text) t = with_text text t

-- a text is told no more: from now on it is empty, if it was told
abbrev pub no_characters : ArrayVec ℕ
no_characters = record { items = [] }

abbrev pub without_told : Option (ArrayVec ℕ) → TextHistory → TextHistory
without_told None t = t
without_told (Some last) t = with_text no_characters t

abbrev pub without_text : TextHistory → TextHistory
without_text t = without_told t.last t

-- formula
-- the serial number of an antenna: a message without one keeps the number of before, but not of another antenna
abbrev pub with_serial : Bool → Option (ArrayVec ℕ) → TextHistory → TextHistory
with_serial is_other None t = if is_other then without_text t else t
with_serial is_other (Some serial) t = with_text serial t

-- a setup is another one than the last; the first differs from none
abbrev pub is_other_setup : Option ℕ → ℕ → Bool
is_other_setup None setup = false
is_other_setup (Some last) setup = not (last == setup)

abbrev pub no_setup : SetupHistory
no_setup = record { last = None; changes = 0 }

-- a setup is told
abbrev pub with_setup : ℕ → SetupHistory → SetupHistory
with_setup setup t = record { last = Some setup; changes = with_change (is_other_setup t.last setup) t.changes }

abbrev pub with_setup_if_any : Option ℕ → SetupHistory → SetupHistory
with_setup_if_any None t = t
with_setup_if_any (Some setup) t = with_setup setup t

-- ---- a station

abbrev pub no_equipment : Equipment
no_equipment =
    record {
      antenna_type = no_text;
      antenna_serial = no_text;
      antenna_setup = no_setup;
      receiver_type = no_text;
      receiver_version = no_text;
      receiver_serial = no_text;
    }

abbrev pub with_antenna : Antenna → Equipment → Equipment
with_antenna a e =
    record e {
      antenna_type = with_text a.antenna_type e.antenna_type;
      antenna_serial = with_serial (is_other_text e.antenna_type.last a.antenna_type) a.serial e.antenna_serial;
      antenna_setup = with_setup a.setup e.antenna_setup;
    }

abbrev pub with_receiver : Receiver → Equipment → Equipment
with_receiver r e =
    record e {
      receiver_type = with_text r.receiver_type e.receiver_type;
      receiver_version = with_text r.version e.receiver_version;
      receiver_serial = with_text r.serial e.receiver_serial;
    }

abbrev pub with_receiver_if_any : Option Receiver → Equipment → Equipment
with_receiver_if_any None e = e
with_receiver_if_any (Some r) e = with_receiver r e

-- a message of the station more
abbrev pub with_message : EquipmentMessage → Equipment → Equipment
with_message m e = with_receiver_if_any m.receiver (with_antenna m.antenna e)

-- what messages told of a station
abbrev pub equipment_of : ℕ → List EquipmentMessage → Equipment
equipment_of station [] = no_equipment
equipment_of station (m ∷ before) =
    if m.station == station then with_message m (equipment_of station before) else equipment_of station before

-- some message told something of the station: each tells the antenna's type, which may be empty
abbrev pub is_told : Equipment → Bool
is_told e = is_some e.antenna_type.last

-- what was told last of the antenna of a station by messages that came later
abbrev pub with_later_antenna : Equipment → Equipment → Equipment
with_later_antenna later e =
    record e {
      antenna_type = with_text_if_any later.antenna_type.last e.antenna_type;
      antenna_serial =
          with_serial (is_other_if_told e.antenna_type.last later.antenna_type.last) later.antenna_serial.last e.antenna_serial;
      antenna_setup = with_setup_if_any later.antenna_setup.last e.antenna_setup;
    }

-- what was told last of its receiver
abbrev pub with_later_receiver : Equipment → Equipment → Equipment
with_later_receiver later e =
    record e {
      receiver_type = with_text_if_any later.receiver_type.last e.receiver_type;
      receiver_version = with_text_if_any later.receiver_version.last e.receiver_version;
      receiver_serial = with_text_if_any later.receiver_serial.last e.receiver_serial;
    }
