-- The Doppler shifts of the cells of MSM5 and MSM7, for files that show them.
-- Source: RTCM 10403.3, DF399 and DF404
use Rattle.std.specs.Prelude.{ℕ, ℤ, pos, negsuc, neg_ℤ, ◌+ℤ◌, ◌*ℤ◌, List, [], ◌∷◌, slice_index_or, Option, Some, None}
use Rattle.rtk_message.specs.declared.any_message.AnyMessage.{AnyMessage}
use Rattle.rtk_message.specs.declared.any_message.AnyMessage.TheVariants as any
use Rattle.rtk_message.specs.declared.msm.Msm.{Msm}
use Rattle.rtk_obs.specs.declared.any_code.AnyCode.{AnyCode}
use Rattle.rtk_obs.specs.declared.signal_cells.SignalEntry.{SignalEntry}
use Rattle.rtk_obs.specs.AnyCode.{carrier_of}
use Rattle.rtk_obs.specs.Carriers.{frequency_at}
use Rattle.rtk_obs.specs.Mask.{join_from}
use Rattle.rtk_obs.specs.MsmCells.{Slot, slots_of, cell_on}
use Rattle.rtk_obs.specs.Rounding.{rounded}
use Rattle.rtk_obs.specs.SatelliteIndex.{index_in}
use Rattle.rtk_obs.specs.Scaling.{unless_invalid}
use Rattle.rtk_obs.specs.SignalCells.{channel_in, bit_of_row, field_of_row}
use Rattle.rtk_obs.specs.Signals.{code_in}

-- ---- the value

-- formula
-- the rate of the range in 0.0001 m/s: DF399 in m/s, and DF404, if it is valid
abbrev pub fine_rate_of : ℤ → Option ℤ → Option ℤ
fine_rate_of rough None = None
fine_rate_of rough (Some fine) = Some (pos 10_000 *ℤ rough +ℤ fine)

-- the rate, if the rough one and DF404 are valid
abbrev pub rate_of : Option ℤ → Option ℤ → Option ℤ
rate_of None fine = None
rate_of (Some rough) fine = fine_rate_of rough fine

-- formula
-- the Doppler shift of a rate in 0.0001 m/s on a carrier of f Hz, in thousandths of a Hz: - rate * f / (10 * c), where c
-- is 299,792,458 m/s. So it is positive while the satellite comes nearer
-- Source: RINEX 3.05, section 5.9
abbrev pub doppler_of : ℕ → ℤ → ℤ
doppler_of f rate = rounded (neg_ℤ rate *ℤ pos f) 2_997_924_580

-- the shift of a rate, or 0, which means no value, without a rate (this project's rule)
abbrev pub doppler_or_none : ℕ → Option ℤ → ℤ
doppler_or_none f None = pos 0
doppler_or_none f (Some rate) = doppler_of f rate

-- and if the frequency of the carrier, in Hz, is known
abbrev pub doppler_on : Option ℕ → Option ℤ → ℤ
doppler_on None rate = pos 0
doppler_on (Some f) rate = doppler_or_none f rate

-- ---- the fields of a cell

-- formula
-- the rough rate (DF399) of the satellite of a row, in m/s, if it is valid; a kind without rates has none
abbrev pub rough_rate_at : Msm → ℕ → Option ℤ
rough_rate_at m row = unless_invalid (negsuc 8191) (slice_index_or m.rough_rate row (negsuc 8191))

-- formula
-- the fine rate (DF404) of the k-th cell, in 0.0001 m/s, if it is valid; a kind without rates has none
abbrev pub fine_rate_at : Msm → ℕ → Option ℤ
fine_rate_at m k = unless_invalid (negsuc 16_383) (slice_index_or m.fine_rate k (negsuc 16_383))

-- the rate of the k-th cell, of the satellite of a row
abbrev pub rate_at : Msm → ℕ → ℕ → Option ℤ
rate_at m k row = rate_of (rough_rate_at m row) (fine_rate_at m k)

-- ---- the entries

-- the entry of a cell with its Doppler shift, if its satellite and its signal give one. A satellite of GLONASS
-- without a channel, or of which the message tells another one, has no shift
abbrev pub doppler_entry_if : Msm → ℕ → ℕ → Option ℤ → Option ℕ → Option AnyCode → List SignalEntry
doppler_entry_if m k row channel None code = []
doppler_entry_if m k row channel (Some satellite) None = []
doppler_entry_if m k row channel (Some satellite) (Some code) =
    record {
      satellite = satellite;
      code = code;
      doppler_millihertz = doppler_on (frequency_at (carrier_of code) channel) (rate_at m k row);
      cell = cell_on m k row (frequency_at (carrier_of code) channel);
    } ∷ []

-- the entry of the k-th cell, as `signal_entry` has it, with its Doppler shift
abbrev pub doppler_entry : List (Option ℤ) → Msm → ℕ → Slot → List SignalEntry
doppler_entry channels m k s =
    doppler_entry_if m k s.row (channel_in m.system channels (bit_of_row m s.row) (field_of_row m s.row)) (index_in m.system (bit_of_row m s.row)) (code_in m.system s.signal)

-- the entries in the order of the message (this project's rule)
abbrev pub doppler_entries : List (Option ℤ) → Msm → List SignalEntry
doppler_entries channels m = join_from (doppler_entry channels m) 0 (slots_of m.header m.cell_mask)

-- the entries of a message, if Doppler shifts are asked for: those of an MSM have them, and the entries of the
-- others are as this rule has them
abbrev pub entries_with_doppler : (AnyMessage → List SignalEntry) → List (Option ℤ) → AnyMessage → List SignalEntry
entries_with_doppler plain channels (any.Message m) = plain (any.Message m)
entries_with_doppler plain channels (any.Msm m) = doppler_entries channels m
entries_with_doppler plain channels (any.Obs1012 m) = plain (any.Obs1012 m)

-- an entry without its Doppler shift
abbrev pub without_doppler : SignalEntry → SignalEntry
without_doppler e = record { satellite = e.satellite; code = e.code; doppler_millihertz = pos 0; cell = e.cell }
