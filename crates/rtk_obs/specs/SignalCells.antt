-- The cells of messages of any system.
-- Source: RTCM 10403.3, messages 1012 and 1071 to 1137
use Rattle.std.specs.Prelude.{◌≡◌, ◌≢◌, ℕ, ◌==◌, ℤ, pos, ◌+ℤ◌, Bool, ◌||◌, List, [], ◌∷◌, map, slice_index, slice_index_or, Option, Some, None, IfSome, nat_le, if◌then◌else◌}
use Rattle.std.specs.List.{All}
use Rattle.std.specs.Ordering.{int_eq}
use Rattle.rtk_message.specs.declared.any_message.AnyMessage.{AnyMessage}
use Rattle.rtk_message.specs.declared.any_message.AnyMessage.TheVariants as any
use Rattle.rtk_message.specs.declared.msm.Msm.{Msm}
use Rattle.rtk_message.specs.declared.system.System.{System}
use Rattle.rtk_message.specs.declared.system.System.TheVariants.{Gps, Glonass, Galileo, Beidou, Qzss, Sbas, Navic}
use Rattle.rtk_obs.specs.declared.any_code.AnyCode.{AnyCode}
use Rattle.rtk_obs.specs.declared.cell.CellEntry.{CellEntry}
use Rattle.rtk_obs.specs.declared.cell.CellSource.{CellSource}
use Rattle.rtk_obs.specs.declared.signal_cells.SignalEntry.{SignalEntry}
use Rattle.rtk_obs.specs.AnyCode.{carrier_of, code_of_gps, IsSignal}
use Rattle.rtk_obs.specs.Carriers.{channel_at, frequency_at}
use Rattle.rtk_obs.specs.Cell.{IsStrength}
use Rattle.rtk_obs.specs.GlonassCells.{entries_of_1012}
use Rattle.rtk_obs.specs.Mask.{join_from}
use Rattle.rtk_obs.specs.MessageCells.{cells_of}
use Rattle.rtk_obs.specs.MsmCells.{Slot, satellites_of, slots_of, cell_on}
use Rattle.rtk_obs.specs.SatelliteIndex.{index_in}
use Rattle.rtk_obs.specs.Signals.{code_in}

-- formula
-- the field of a satellite of GLONASS (DF419) tells this channel by a number that is 7 greater, or none by 15
abbrev pub agrees_with : ℤ → ℕ → Bool
agrees_with k field = (field == 15) || int_eq (pos field) (k +ℤ pos 7)

-- the channel of a slot, unless the field of its satellite tells another one (this project's rule)
abbrev pub unless_other : ℕ → Option ℤ → Option ℤ
unless_other field None = None
unless_other field (Some k) = if agrees_with k field then Some k else None

-- table
-- the channel of the satellite of a mask bit (DF394) with this field (DF419): a satellite of GLONASS has that of
-- its slot, from 1 to 27, if the slot has one
abbrev pub channel_in : System → List (Option ℤ) → ℕ → ℕ → Option ℤ
channel_in Gps channels bit field = None
channel_in Glonass channels bit field = if nat_le bit 27 then unless_other field (channel_at channels bit) else None
channel_in Galileo channels bit field = None
channel_in Beidou channels bit field = None
channel_in Qzss channels bit field = None
channel_in Sbas channels bit field = None
channel_in Navic channels bit field = None

-- formula
-- the mask bit (DF394) of the satellite of a row
abbrev pub bit_of_row : Msm → ℕ → ℕ
bit_of_row m row = slice_index (satellites_of m.header) row

-- formula
-- the field of the channel (DF419) of the satellite of a row, or 15, which tells none, in a kind without it
abbrev pub field_of_row : Msm → ℕ → ℕ
field_of_row m at = slice_index_or m.extended at 15

-- the entry of a cell, if its satellite and its signal give one
abbrev pub entry_if : Msm → ℕ → ℕ → Option ℤ → Option ℕ → Option AnyCode → List SignalEntry
entry_if m k row channel None code = []
entry_if m k row channel (Some satellite) None = []
entry_if m k row channel (Some satellite) (Some code) =
    record { satellite = satellite; code = code; doppler_millihertz = pos 0; cell = cell_on m k row (frequency_at (carrier_of code) channel) } ∷ []

-- the entry of the k-th cell: of which satellite and signal it is, its row and the signal identifier
-- (DF395) say
abbrev pub signal_entry : List (Option ℤ) → Msm → ℕ → Slot → List SignalEntry
signal_entry channels m k s =
    entry_if m k s.row (channel_in m.system channels (bit_of_row m s.row) (field_of_row m s.row)) (index_in m.system (bit_of_row m s.row)) (code_in m.system s.signal)

-- the entries in the order of the message (this project's rule)
abbrev pub signal_entries : List (Option ℤ) → Msm → List SignalEntry
signal_entries channels m = join_from (signal_entry channels m) 0 (slots_of m.header m.cell_mask)

-- two entries are of different satellites, or of one satellite and different codes
abbrev pub AreDifferentEntries : SignalEntry → SignalEntry → Type 0
AreDifferentEntries a b = a.satellite ≡ b.satellite → a.code ≢ b.code

-- a cell of GPS as one of any system
abbrev pub signal_of : CellEntry → SignalEntry
signal_of e = record { satellite = e.satellite; code = code_of_gps e.code; doppler_millihertz = pos 0; cell = e.cell }

-- the entries of a message, in its order: those of an MSM other than 1074, of a 1012, or of the cells of GPS
abbrev pub entries_of : List (Option ℤ) → AnyMessage → List SignalEntry
entries_of channels (any.Message m) = map signal_of (cells_of (any.Message m))
entries_of channels (any.Msm m) = signal_entries channels m
entries_of channels (any.Obs1012 m) = entries_of_1012 channels m.satellites

-- a satellite with a code of its system, and no strength or one that messages give
pub record IsSignalInRange (e : SignalEntry) : Type 0 where
  pub signal : IsSignal e.satellite e.code
  pub strength : IfSome e.cell.strength_millidbhz IsStrength

-- all entries came in one kind of message
abbrev pub EntriesAreOfOneKind : List SignalEntry → Type 0
EntriesAreOfOneKind entries = (source : CellSource) × All (λ e. e.cell.source ≡ source) entries
