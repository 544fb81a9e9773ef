-- Message 1074 after its number (RTCM 10403.3, message 1074, GPS MSM4): a header of 157 bits, the
-- cell mask, the columns.
-- Source: RTCM 10403.3, message 1074
use Rattle.std.specs.Prelude.{◌≡◌, ℕ, ◌+◌, ◌*◌, ◌≤◌, ◌<◌, Bool, List, [], ◌∷◌, ◌++◌, length, sum_by, count_ones, take, drop, Option, Some, None, nat_lt, nat_le, if◌then◌else◌}
use Rattle.rtk_bits.specs.Bits.{unsigned}
use Rattle.rtk_message.specs.Fields.{week_ms, tow_in, Field, u, flag, FieldsFit}
use Rattle.rtk_message.specs.FieldColumns.{numbers, integers, flags}
use Rattle.rtk_message.specs.declared.fault.DecodeFault.{DecodeFault}
use Rattle.rtk_message.specs.declared.fault.DecodeFault.TheVariants.{Short, EpochRange, TooManyCells}
use Rattle.rtk_message.specs.declared.msm1074.MsmHeader.{MsmHeader}
use Rattle.rtk_message.specs.declared.msm1074.Msm1074.{Msm1074}

-- table
-- the header: DF003, DF004, DF393, DF409, DF001, DF411, DF412, DF417, DF418, DF394, DF395
abbrev pub header_table : MsmHeader → List Field
header_table h =
    u 12 h.station ∷ u 30 h.tow ∷ flag h.multiple_message ∷ u 3 h.issue_of_data_station ∷ u 7 h.reserved ∷
    u 2 h.clock_steering ∷ u 2 h.external_clock ∷ flag h.smoothing ∷ u 3 h.smoothing_interval ∷
    u 64 h.satellite_mask ∷ u 32 h.signal_mask ∷ []

-- how many satellites and how many signals the message has: the bits set in their masks
abbrev pub satellite_count : MsmHeader → ℕ
satellite_count h = count_ones h.satellite_mask

abbrev pub signal_count : MsmHeader → ℕ
signal_count h = count_ones h.signal_mask

-- table
-- the cell mask (DF396): for each satellite a row of one bit for each signal; the satellites rise,
-- and in each row the signals
abbrev pub mask_table : Msm1074 → List Field
mask_table m = numbers (signal_count m.header) m.cell_mask

-- table
-- each field is given for all satellites or cells before the next field: DF397 and DF398 for the
-- satellites, DF400, DF401, DF402, DF420 and DF403 for the cells
abbrev pub column_table : Msm1074 → List Field
column_table m =
    numbers 8 m.rough_ms ++ (numbers 10 m.rough_fraction ++
    (integers 15 m.fine_range ++ (integers 22 m.fine_phase ++ (numbers 4 m.lock_indicator ++ (flags m.half_cycle ++ numbers 6 m.cnr)))))

-- table
abbrev pub table : Msm1074 → List Field
table m = header_table m.header ++ (mask_table m ++ column_table m)

-- how many cells the message has: the bits set in the cell mask
abbrev pub cell_count : Msm1074 → ℕ
cell_count m = sum_by count_ones m.cell_mask

-- each column has as many entries as there are satellites, or cells
pub record HasLengths (m : Msm1074) : Type 0 where
  pub cell_mask : length m.cell_mask ≡ satellite_count m.header
  pub rough_ms : length m.rough_ms ≡ satellite_count m.header
  pub rough_fraction : length m.rough_fraction ≡ satellite_count m.header
  pub fine_range : length m.fine_range ≡ cell_count m
  pub fine_phase : length m.fine_phase ≡ cell_count m
  pub lock_indicator : length m.lock_indicator ≡ cell_count m
  pub half_cycle : length m.half_cycle ≡ cell_count m
  pub cnr : length m.cnr ≡ cell_count m

-- no column has an entry (this project's rule)
pub record HasNoCells (m : Msm1074) : Type 0 where
  pub cell_mask : m.cell_mask ≡ []
  pub rough_ms : m.rough_ms ≡ []
  pub rough_fraction : m.rough_fraction ≡ []
  pub fine_range : m.fine_range ≡ []
  pub fine_phase : m.fine_phase ≡ []
  pub lock_indicator : m.lock_indicator ≡ []
  pub half_cycle : m.half_cycle ≡ []
  pub cnr : m.cnr ≡ []

-- constant
-- each field fits, the time lies in a week, the cell mask has at most 64 bits, the columns have
-- their lengths
pub record IsValid (m : Msm1074) : Type 0 where
  pub fields_fit : FieldsFit (table m)
  pub time_in_week : m.header.tow < week_ms
  pub mask_bits : satellite_count m.header * signal_count m.header ≤ 64
  pub lengths : HasLengths m

-- ---- the first fault of bits after the number

-- formula
-- how many satellites there are, by DF394
abbrev pub satellite_count_in : List Bool → ℕ
satellite_count_in bs = count_ones (unsigned (take 64 (drop 61 bs)))

-- formula
-- how many bits the cell mask has: satellites times signals, by DF394 and DF395
abbrev pub mask_bits_in : List Bool → ℕ
mask_bits_in bs = satellite_count_in bs * count_ones (unsigned (take 32 (drop 125 bs)))

-- formula
-- how many cells there are, by DF396
abbrev pub cell_count_in : List Bool → ℕ
cell_count_in bs = count_ones (unsigned (take (mask_bits_in bs) (drop 157 bs)))

-- formula
-- a satellite takes 18 bits after the cell mask, a cell 48; the order of the causes is this project's
abbrev pub first_fault : List Bool → Option DecodeFault
first_fault bs =
    if nat_lt (length bs) 157 then Some (Short 1074) else
    if nat_le week_ms (tow_in bs) then Some (EpochRange 1074) else
    if nat_lt 64 (mask_bits_in bs) then Some TooManyCells else
    if nat_lt (length bs) (157 + mask_bits_in bs + 18 * satellite_count_in bs + 48 * cell_count_in bs) then Some (Short 1074) else None
