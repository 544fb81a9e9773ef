-- Rolls of 1500 cycles of the phases of 1004 and 1012, and the last phase of a satellite and code. They are counted by the
-- frequency of a carrier, in Hz.
use Rattle.std.specs.Prelude.{false, not, ◌||◌, ◌&&◌, List, [], ◌∷◌, Option, Some, None, ℕ, ◌*◌, ℤ, pos, negsuc, neg_ℤ, ◌+ℤ◌, ◌-ℤ◌, ◌*ℤ◌, int_lt, int_le, if◌then◌else◌}
use Rattle.rtk_obs.specs.declared.track.Track.{Track}
use Rattle.rtk_obs.specs.declared.track.Digits.{Digits}
use Rattle.rtk_obs.specs.Slip.{EpochCell, has_phase, is_legacy, has_slipped, slip_since}

-- constant
-- An offset d, in 0.0005 m, is d * f / (2 * c) millicycles (c is 299,792,458 m/s). DF012 and DF018, and
-- in a 1012 DF042 and DF048, roll over by 1500 cycles to stay in range, so a change of more than 750
-- cycles is a roll: one less if the offset rose by more, one more if it fell by more.
abbrev pub half_roll : ℕ
half_roll = 1_500_000 * 299_792_458

-- formula
abbrev pub roll_of : ℕ → ℤ → ℤ
roll_of frequency d =
    if int_lt (pos half_roll) (d *ℤ pos frequency) then negsuc 0
    else if int_lt (d *ℤ pos frequency) (neg_ℤ (pos half_roll)) then pos 1
    else pos 0

-- the roll count from one offset to the next; 0 if one of them is missing
abbrev pub rolls_between : ℕ → ℤ → Option ℤ → Option ℤ → ℤ
rolls_between frequency rolls (Some a) (Some b) = rolls +ℤ roll_of frequency (b -ℤ a)
rolls_between frequency rolls _ _ = pos 0

-- the roll count after the last phase: 0 at a slip, and if one of the two phases is of an MSM
abbrev pub rolls_after : ℕ → Track → EpochCell → ℤ
rolls_after frequency last e =
    if has_slipped last e || not (is_legacy last.source && is_legacy e.cell.source) then pos 0
    else rolls_between frequency last.rolls last.offset e.cell.offset

-- the roll count of a phase; 0 if there is no earlier one
abbrev pub rolls_since : ℕ → Option Track → EpochCell → ℤ
rolls_since frequency None e = pos 0
rolls_since frequency (Some last) e = rolls_after frequency last e

-- what is remembered of a phase, with its roll count
abbrev pub track_of : ℕ → Option Track → EpochCell → Track
track_of frequency last e =
    record { epoch = e.epoch; lock_time_ms = e.cell.lock_time_ms; source = e.cell.source; offset = e.cell.offset; rolls = rolls_since frequency last e }

-- the last phase after an epoch: the phase of the epoch's cell, if it has one
abbrev pub last_after : ℕ → Option Track → EpochCell → Option Track
last_after frequency last e = if has_phase e then Some (track_of frequency last e) else last

-- the last phase of a satellite and code, its epochs falling, with its roll count
abbrev pub last_phase : ℕ → List EpochCell → Option Track
last_phase frequency [] = None
last_phase frequency (e ∷ below) = last_after frequency (last_phase frequency below) e

-- formula
-- The digits of a cell: the slip, the half-cycle mark and the roll count of its phase. A cell
-- without a phase has none of them.
abbrev pub digits_since : ℕ → Option Track → EpochCell → Digits
digits_since frequency last e =
    if has_phase e then record { slip = slip_since last e; half = e.cell.half; rolls = rolls_since frequency last e }
    else record { slip = false; half = false; rolls = pos 0 }

-- constant
-- a value, in thousandths, within the limits of an observation of RINEX: three decimals in 14
-- columns; the phases of a legacy message leave them after some 667,000 rolls, which no test has
-- Source: RINEX 3.05, Table A3
abbrev pub within_limits : ℤ → Option ℤ
within_limits v =
    if int_le (negsuc 999_999_999_998) v && int_le v (pos 9_999_999_999_999) then Some v else None

-- formula
-- the phase with 1500 cycles added for each roll, or none outside the limits
-- Source: RTCM 10403.3, DF012, DF018, DF042 and DF048
abbrev pub rolled_phase : ℤ → ℤ → Option ℤ
rolled_phase phase rolls = within_limits (phase +ℤ pos 1_500_000 *ℤ rolls)
