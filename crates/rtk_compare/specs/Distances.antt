-- How far the values of a cell are apart: what two files show of one satellite and code at one epoch. All of it is
-- this project's rule.
use Rattle.std.specs.Prelude.{ℕ, nat_lt, nat_le, Bool, true, false, not, ◌&&◌, ◌||◌, List, ◌∷◌, ℤ, pos, ◌-ℤ◌, unsigned_abs, Option, None, Some}
use Rattle.std.specs.Ordering.{int_eq}
use Rattle.rtk_rinex.specs.declared.epoch_table.Observed.{Observed}
use Rattle.rtk_compare.specs.declared.distances.Distances.{Distances}
use Rattle.rtk_compare.specs.Pairs.{Pair}
use Rattle.rtk_compare.specs.Phases.{beside_rolls, rolls_of, rolls_held}

-- how far two values are apart, if both are there
abbrev pub apart : Option ℤ → Option ℤ → ℕ
apart (Some a) (Some b) = unsigned_abs (a -ℤ b)
apart (Some a) None = 0
apart None b = 0

abbrev pub strength_value : Option ℕ → Option ℤ
strength_value None = None
strength_value (Some s) = Some (pos s)

abbrev pub ranges_apart : Pair Observed → ℕ
ranges_apart p = apart p.old.range_mm p.new.range_mm

abbrev pub strengths_apart : Pair Observed → ℕ
strengths_apart p = apart (strength_value p.old.strength_millidbhz) (strength_value p.new.strength_millidbhz)

-- how far the phases are apart beside whole rolls
abbrev pub phases_apart : Pair Observed → ℕ
phases_apart p = beside_rolls (apart p.old.phase_millicycles p.new.phase_millicycles)

-- the rolls are those that are held, or a phase is missing
abbrev pub are_due : Option ℤ → ℤ → Bool
are_due None held = true
are_due (Some rolls) held = int_eq rolls held

-- all distances of a cell, after these earlier cells of the satellite and code, newest first
abbrev pub distances_of : List (Pair Observed) → Pair Observed → Distances
distances_of earlier p =
    record {
      range = ranges_apart p;
      phase = phases_apart p;
      strength = strengths_apart p;
      rolls = rolls_of p;
      are_due = are_due (rolls_of p) (rolls_held (p ∷ earlier));
    }

-- constant
-- all values that both have are as near as those of a 1004 and of an MSM, which is finer: 0.02 m, 0.010 cycles
-- beside the rolls that are due, and 1 dB
abbrev pub is_near : Distances → Bool
is_near d = nat_le d.range 20 && nat_le d.strength 1000 && d.are_due && nat_le d.phase 10

-- some value of both differs, but for the rolls of the phase
abbrev pub differs : Distances → Bool
differs d = nat_lt 0 d.range || nat_lt 0 d.strength || nat_lt 0 d.phase

-- the phase has changed: by other rolls than those that are due, or, in a cell that is not near, by a part of one
abbrev pub phase_has_changed : Distances → Bool
phase_has_changed d = not (is_near d) && (not d.are_due || nat_lt 0 d.phase)

abbrev pub range_has_changed : Distances → Bool
range_has_changed d = not (is_near d) && nat_lt 0 d.range

abbrev pub strength_has_changed : Distances → Bool
strength_has_changed d = not (is_near d) && nat_lt 0 d.strength

-- a finer message gives the cell
abbrev pub is_finer : Distances → Bool
is_finer d = is_near d && differs d

-- the phases differ by some rolls
abbrev pub are_some : Option ℤ → Bool
are_some None = false
are_some (Some rolls) = not (int_eq rolls (pos 0))

-- the phase has rolled, and not changed
abbrev pub has_rolled : Distances → Bool
has_rolled d = are_some d.rolls && not (phase_has_changed d)
