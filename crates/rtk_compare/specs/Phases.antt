-- The earlier phases of a satellite and code in two files, newest first: what they say of a slip, and of the
-- rolls by which the phases differ.
use Rattle.std.specs.Prelude.{ℕ, ◌+◌, ◌-◌, ◌/◌, ◌%◌, nat_lt, min, Bool, false, not, ◌&&◌, ◌||◌, if◌then◌else◌, List, [], ◌∷◌, ℤ, pos, neg_ℤ, ◌-ℤ◌, int_lt, unsigned_abs, Option, None, Some, is_some}
use Rattle.std.specs.Ordering.{int_eq}
use Rattle.std.specs.List.{list_any}
use Rattle.rtk_rinex.specs.declared.epoch_table.Observed.{Observed}
use Rattle.rtk_compare.specs.Pairs.{Pair}

abbrev pub has_phase : Observed → Bool
has_phase o = is_some o.phase_millicycles

-- a file has a slip here
abbrev pub has_slip : Pair Observed → Bool
has_slip p = p.old.slip || p.new.slip

-- ---- slips

-- the old file has an earlier phase
abbrev pub had_phase : List (Pair Observed) → Bool
had_phase earlier = list_any (λ p. has_phase p.old) earlier

-- the new file has a phase after the last one of the old file, so it fills a gap of the old file
abbrev pub fills_gap : List (Pair Observed) → Bool
fills_gap [] = false
fills_gap (p ∷ earlier) = not (has_phase p.old) && (has_phase p.new || fills_gap earlier)

-- ---- rolls

-- constant
-- a phase of a 1004 rolls over by 1500 cycles to stay in range, here in thousandths of a cycle
-- Source: RTCM 10403.3, DF012 and DF018
abbrev pub roll : ℕ
roll = 1_500_000

-- formula
-- the number of rolls that is nearest to a distance
abbrev pub nearest_rolls : ℕ → ℕ
nearest_rolls d = d / roll + (if nat_lt (roll / 2) (d % roll) then 1 else 0)

-- formula
-- what is left of a distance beside the nearest number of rolls
abbrev pub beside_rolls : ℕ → ℕ
beside_rolls d = min (d % roll) (roll - d % roll)

-- formula
-- the whole rolls that are nearest to the way from one phase to another
abbrev pub rolls_from : ℤ → ℤ → ℤ
rolls_from a b =
    if int_lt b a then neg_ℤ (pos (nearest_rolls (unsigned_abs (a -ℤ b)))) else pos (nearest_rolls (unsigned_abs (a -ℤ b)))

abbrev pub rolls_of_phases : Option ℤ → Option ℤ → Option ℤ
rolls_of_phases (Some a) (Some b) = Some (rolls_from a b)
rolls_of_phases (Some a) None = None
rolls_of_phases None b = None

-- the rolls from the phase of the old file to that of the new one, if both have one
abbrev pub rolls_of : Pair Observed → Option ℤ
rolls_of p = rolls_of_phases p.old.phase_millicycles p.new.phase_millicycles

abbrev pub rolls_or_none : Option ℤ → ℤ
rolls_or_none None = pos 0
rolls_or_none (Some rolls) = rolls

-- rolls that are there stay, and else these begin
abbrev pub rolls_kept : ℤ → ℤ → ℤ
rolls_kept held rolls = if int_eq held (pos 0) then rolls else held

-- the rolls can begin anew here: at a slip, or behind a gap of the old file that the new one fills
abbrev pub begins_anew : List (Pair Observed) → Pair Observed → Bool
begins_anew earlier p = has_slip p || (has_phase p.old && fills_gap earlier)

-- the rolls by which the phases differ, once they do: from there on they stay until they can begin anew
abbrev pub rolls_held : List (Pair Observed) → ℤ
rolls_held [] = pos 0
rolls_held (p ∷ earlier) = rolls_kept (if begins_anew earlier p then pos 0 else rolls_held earlier) (rolls_or_none (rolls_of p))
