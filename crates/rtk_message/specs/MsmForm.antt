-- The multiple signal messages after their number (RTCM 10403.3, MSM4 to MSM7): a header of 157
-- bits, the cell mask, the columns. One table serves all kinds and all systems.
-- Source: RTCM 10403.3, messages 1071 to 1137
use Rattle.std.specs.Prelude.{◌≡◌, ℕ, ◌+◌, ◌*◌, ◌≤◌, ◌<◌, Bool, true, false, not, IsTrue, List, [], ◌++◌, length, sum_by, count_ones, Option, Some, None, nat_lt, if◌then◌else◌}
use Rattle.rtk_message.specs.Fields.{tow_in, Field, FieldsFit}
use Rattle.rtk_message.specs.FieldColumns.{numbers, integers, flags}
use Rattle.rtk_message.specs.Msm1074.{header_table, satellite_count, signal_count, satellite_count_in, mask_bits_in, cell_count_in}
use Rattle.rtk_message.specs.declared.any_fault.AnyFault.{AnyFault}
use Rattle.rtk_message.specs.declared.any_fault.AnyFault.TheVariants.{Short, EpochRange, TooManyCells}
use Rattle.rtk_message.specs.declared.msm_kind.MsmKind.{MsmKind}
use Rattle.rtk_message.specs.declared.msm_kind.MsmKind.TheVariants.{Msm4, Msm5, Msm6, Msm7}
use Rattle.rtk_message.specs.declared.msm_kind.MsmForm.{MsmForm}
use Rattle.rtk_message.specs.declared.msm_type.MsmType.{MsmType}
use Rattle.rtk_message.specs.declared.system.System.TheVariants.{Gps}
use Rattle.rtk_message.specs.declared.msm.Msm.{Msm}
use Rattle.rtk_message.specs.declared.msm1074.Msm1074.{Msm1074}
use Rattle.rtk_message.specs.Systems.{number_of_type, tells_time}

-- the type of a message: its system and its kind
abbrev pub type_of : Msm → MsmType
type_of m = record { system = m.system; kind = m.kind }

-- table
-- the widths of DF400 or DF405, DF401 or DF406, DF402 or DF407, and DF403 or DF408, in bits
abbrev pub form_of : MsmKind → MsmForm
form_of Msm4 = record { fine_range = 15; fine_phase = 22; lock_indicator = 4; cnr = 6 }
form_of Msm5 = record { fine_range = 15; fine_phase = 22; lock_indicator = 4; cnr = 6 }
form_of Msm6 = record { fine_range = 20; fine_phase = 24; lock_indicator = 10; cnr = 10 }
form_of Msm7 = record { fine_range = 20; fine_phase = 24; lock_indicator = 10; cnr = 10 }

-- table
-- the kinds with range rates (MSM5 and MSM7)
abbrev pub has_rates : MsmKind → Bool
has_rates Msm4 = false
has_rates Msm5 = true
has_rates Msm6 = false
has_rates Msm7 = true

-- this number for a kind with range rates, and 0 for another kind
abbrev pub if_rates : MsmKind → ℕ → ℕ
if_rates k n = if has_rates k then n else 0

-- table
-- the cell mask (DF396): for each satellite a row of one bit for each signal; the satellites rise,
-- and in each row the signals
abbrev pub mask_table : Msm → List Field
mask_table m = numbers (signal_count m.header) m.cell_mask

-- table
-- the columns of the satellites: DF397, extended satellite information (GLONASS: DF419), DF398, DF399
abbrev pub satellite_table : Msm → List Field
satellite_table m =
    numbers 8 m.rough_ms ++ (numbers 4 m.extended ++ (numbers 10 m.rough_fraction ++ integers 14 m.rough_rate))

-- table
-- the columns of the cells: DF400 or DF405, DF401 or DF406, DF402 or DF407, DF420, DF403 or DF408,
-- DF404
abbrev pub cell_table : MsmForm → Msm → List Field
cell_table f m =
    integers f.fine_range m.fine_range ++ (integers f.fine_phase m.fine_phase ++ (numbers f.lock_indicator m.lock_indicator ++
    (flags m.half_cycle ++ (numbers f.cnr m.cnr ++ integers 15 m.fine_rate))))

-- table
-- each field is given for all satellites or cells before the next field
abbrev pub column_table : Msm → List Field
column_table m = satellite_table m ++ cell_table (form_of m.kind) m

-- table
abbrev pub table : Msm → List Field
table m = header_table m.header ++ (mask_table m ++ column_table m)

-- how many cells the message has: the bits set in the cell mask
abbrev pub cell_count : Msm → ℕ
cell_count m = sum_by count_ones m.cell_mask

-- each column has as many entries as there are satellites, or cells; the columns of range rates
-- have none in a kind without rates
pub record HasLengths (m : Msm) : Type 0 where
  pub cell_mask : length m.cell_mask ≡ satellite_count m.header
  pub rough_ms : length m.rough_ms ≡ satellite_count m.header
  pub extended : length m.extended ≡ if_rates m.kind (satellite_count m.header)
  pub rough_fraction : length m.rough_fraction ≡ satellite_count m.header
  pub rough_rate : length m.rough_rate ≡ if_rates m.kind (satellite_count m.header)
  pub fine_range : length m.fine_range ≡ cell_count m
  pub fine_phase : length m.fine_phase ≡ cell_count m
  pub lock_indicator : length m.lock_indicator ≡ cell_count m
  pub half_cycle : length m.half_cycle ≡ cell_count m
  pub cnr : length m.cnr ≡ cell_count m
  pub fine_rate : length m.fine_rate ≡ if_rates m.kind (cell_count m)

-- no column has an entry (this project's rule)
pub record HasNoCells (m : Msm) : Type 0 where
  pub cell_mask : m.cell_mask ≡ []
  pub rough_ms : m.rough_ms ≡ []
  pub extended : m.extended ≡ []
  pub rough_fraction : m.rough_fraction ≡ []
  pub rough_rate : m.rough_rate ≡ []
  pub fine_range : m.fine_range ≡ []
  pub fine_phase : m.fine_phase ≡ []
  pub lock_indicator : m.lock_indicator ≡ []
  pub half_cycle : m.half_cycle ≡ []
  pub cnr : m.cnr ≡ []
  pub fine_rate : m.fine_rate ≡ []

-- constant
-- the message has the form of its kind: each field fits, the clock tells a time, with a day or without, the
-- cell mask has at most 64 bits, the columns have their lengths
pub record HasForm (m : Msm) : Type 0 where
  pub fields_fit : FieldsFit (table m)
  pub time : IsTrue (tells_time true m.system m.header.tow)
  pub mask_bits : satellite_count m.header * signal_count m.header ≤ 64
  pub lengths : HasLengths m

-- constant
-- any type but MSM4 of GPS: message 1074 has a Rust type of its own (this project's rule)
abbrev pub IsWide : MsmType → Type 0
IsWide t = 1074 < number_of_type t

-- which messages other than 1074 can be written as bits
pub record IsValid (m : Msm) : Type 0 where
  pub wide : IsWide (type_of m)
  pub form : HasForm m

-- a 1074 in this form: it has no columns of range rates (this project's rule)
abbrev pub msm_of_1074 : Msm1074 → Msm
msm_of_1074 m = record {
  system = Gps;
  kind = Msm4;
  header = m.header;
  cell_mask = m.cell_mask;
  rough_ms = m.rough_ms;
  extended = [];
  rough_fraction = m.rough_fraction;
  rough_rate = [];
  fine_range = m.fine_range;
  fine_phase = m.fine_phase;
  lock_indicator = m.lock_indicator;
  half_cycle = m.half_cycle;
  cnr = m.cnr;
  fine_rate = [];
}

-- ---- the first fault of bits after the number

-- formula
-- how many bits a satellite has after the cell mask: DF397, extended information, DF398, DF399
abbrev pub satellite_bits : MsmKind → ℕ
satellite_bits k = 8 + if_rates k 4 + 10 + if_rates k 14

-- formula
-- how many bits a cell has after the cell mask
abbrev pub cell_bits : MsmKind → ℕ
cell_bits k = (form_of k).fine_range + (form_of k).fine_phase + (form_of k).lock_indicator + 1 + (form_of k).cnr + if_rates k 15

-- formula
-- in the order in which causes are looked for (this project's rule), if the day of a clock has to be known or
-- any day is taken
abbrev pub first_fault : Bool → MsmType → List Bool → Option AnyFault
first_fault any_day t bs =
    if nat_lt (length bs) 157 then Some (Short (number_of_type t)) else
    if not (tells_time any_day t.system (tow_in bs)) then Some (EpochRange (number_of_type t)) else
    if nat_lt 64 (mask_bits_in bs) then Some (TooManyCells (number_of_type t)) else
    if nat_lt (length bs) (157 + mask_bits_in bs + satellite_bits t.kind * satellite_count_in bs + cell_bits t.kind * cell_count_in bs)
    then Some (Short (number_of_type t)) else None
