-- Exact values of the fields of 1004, of 1012 and of the MSM, each rounded once (RTCM 10403.3).
-- Source: RTCM 10403.3, DF011 to DF020, DF041 to DF050, DF397 to DF401, DF405, DF406 and DF408
use Rattle.std.specs.Prelude.{ℕ, ◌+◌, ◌*◌, ◌==◌, max, min, ℤ, pos, ◌+ℤ◌, ◌*ℤ◌, Option, Some, None, if◌then◌else◌}
use Rattle.std.specs.Ordering.{int_eq}
use Rattle.rtk_obs.specs.declared.code.Band.{Band}
use Rattle.rtk_obs.specs.Code.{frequency_of}
use Rattle.rtk_obs.specs.Rounding.{rounded, rounded_magnitude}

-- a field, or none if it has its invalid mark
abbrev pub unless_invalid : ℤ → ℤ → Option ℤ
unless_invalid mark field = if int_eq field mark then None else Some field

-- formula
-- a signal strength in thousandths of a dB-Hz, from its number of steps; 0 is not given
abbrev pub strength_of : ℕ → ℕ → Option ℕ
strength_of step steps = if steps == 0 then None else Some (step * steps)

-- formula
-- a signal strength in thousandths of a dB-Hz, from sixteenths of a dB-Hz (DF408); 0 is not given.
-- It is rounded to quarters of a dB-Hz, a tie up, and held to 0.25 to 63.75 dB-Hz (this project's
-- rule; a 1004 can give no others).
abbrev pub strength_of_sixteenths : ℕ → Option ℕ
strength_of_sixteenths n = if n == 0 then None else Some (250 * min (max (rounded_magnitude n 4) 1) 255)

-- ---- 1004: lengths in 0.0005 m

-- formula
-- the L1 pseudorange: DF011 in 0.02 m, and DF014 in 299,792.458 m
abbrev pub l1_length : ℕ → ℕ → ℤ
l1_length range modulus_ambiguity = pos (40 * range + 599_584_916 * modulus_ambiguity)

-- formula
-- the pseudorange of L2: DF017, in 0.02 m, added to the pseudorange of L1
abbrev pub l2_length : ℤ → ℤ → ℤ
l2_length l1 difference = l1 +ℤ pos 40 *ℤ difference

-- formula
-- a length as a range in mm
abbrev pub range_of_length : ℤ → ℤ
range_of_length length = rounded length 2

-- formula
-- a length as a phase in millicycles: length * f / (2 * c), where c is 299,792,458 m/s
abbrev pub phase_of_length : Band → ℤ → ℤ
phase_of_length band length = rounded (length *ℤ pos (frequency_of band)) 599_584_916

-- ---- 1012: lengths in 0.0005 m

-- formula
-- the L1 pseudorange: DF041 in 0.02 m, and DF044 in 599,584.916 m
abbrev pub glonass_length : ℕ → ℕ → ℤ
glonass_length range modulus_ambiguity = pos (40 * range + 1_199_169_832 * modulus_ambiguity)

-- formula
-- a length as a phase in millicycles of a frequency f in Hz: length * f / (2 * c), where c is 299,792,458 m/s
abbrev pub phase_of_length_on : ℕ → ℤ → ℤ
phase_of_length_on f length = rounded (length *ℤ pos f) 599_584_916

-- ---- MSM: travel times of the signal in 2^-29 ms

-- formula
-- the rough range: DF397 in ms, and DF398 in 2^-10 ms
abbrev pub rough_time : ℕ → ℕ → ℤ
rough_time ms fraction = pos (536_870_912 * ms + 524_288 * fraction)

-- formula
-- the rough range and a fine one: DF400 in 2^-24 ms
abbrev pub range_time : ℤ → ℤ → ℤ
range_time rough fine = rough +ℤ pos 32 *ℤ fine

-- formula
-- a time as a range in mm: time * c / 2^29
abbrev pub range_of_time : ℤ → ℤ
range_of_time time = rounded (time *ℤ pos 299_792_458) 536_870_912

-- formula
-- a time as a phase in millicycles of a frequency f in Hz: time * f / 2^29
abbrev pub phase_of_time : ℕ → ℤ → ℤ
phase_of_time f time = rounded (time *ℤ pos f) 536_870_912

-- formula
-- the rough range and a fine phase of extended resolution, DF406, in 2^-31 ms
abbrev pub extended_phase_time : ℤ → ℤ → ℤ
extended_phase_time rough fine = pos 4 *ℤ rough +ℤ fine

-- formula
-- a time in 2^-31 ms as a phase in millicycles: time * f / 2^31
abbrev pub phase_of_extended_time : ℕ → ℤ → ℤ
phase_of_extended_time f time = rounded (time *ℤ pos f) 2_147_483_648
