-- The differences of a cell: what two files show of one satellite and code at one epoch. All of it is this
-- project's rule.
use Rattle.std.specs.Prelude.{Bool, false, not, ◌&&◌, if◌then◌else◌, List, [], ◌∷◌, ◌++◌, ℤ, Option, None, Some, is_some, is_none}
use Rattle.std.specs.Ordering.{int_eq}
use Rattle.rtk_rinex.specs.declared.epoch_table.Observed.{Observed}
use Rattle.rtk_compare.specs.declared.difference.Class.{Class}
use Rattle.rtk_compare.specs.declared.difference.Class.TheVariants.{Lost, Changed, Explained}
use Rattle.rtk_compare.specs.declared.difference.What.{What}
use Rattle.rtk_compare.specs.declared.difference.What.TheVariants.{Range, Phase, Strength, Doppler, Finer, Roll, Slip, FirstSlip, FilledSlip, NewSlip, HalfCycle}
use Rattle.rtk_compare.specs.declared.difference.Place.{Place}
use Rattle.rtk_compare.specs.declared.difference.Difference.{Difference}
use Rattle.rtk_compare.specs.declared.distances.Distances.{Distances}
use Rattle.rtk_compare.specs.Pairs.{Pair}
use Rattle.rtk_compare.specs.Phases.{has_phase, had_phase, fills_gap}
use Rattle.rtk_compare.specs.Distances.{distances_of, range_has_changed, phase_has_changed, strength_has_changed, is_finer, has_rolled}

-- a difference, if there is one
abbrev pub told_if : Bool → Class → What → Place → List Difference
told_if differs class what place = if differs then record { class = class; what = what; place = place } ∷ [] else []

-- ---- values

-- the old file has a value, and the new one has none
abbrev pub is_gone : {A : Type 0} → Option A → Option A → Bool
is_gone a b = is_some a && is_none b

-- both files have a value, but not the same
abbrev pub is_other_number : Option ℤ → Option ℤ → Bool
is_other_number (Some a) (Some b) = not (int_eq a b)
is_other_number (Some a) None = false
is_other_number None b = false

abbrev pub gone_lines : Pair Observed → Place → List Difference
gone_lines p place =
    told_if (is_gone p.old.range_mm p.new.range_mm) Lost Range place
    ++ told_if (is_gone p.old.phase_millicycles p.new.phase_millicycles) Lost Phase place
    ++ told_if (is_gone p.old.strength_millidbhz p.new.strength_millidbhz) Lost Strength place

-- values that have changed, or are finer
abbrev pub value_lines : Distances → Place → List Difference
value_lines d place =
    told_if (range_has_changed d) Changed Range place
    ++ told_if (phase_has_changed d) Changed Phase place
    ++ told_if (strength_has_changed d) Changed Strength place
    ++ told_if (is_finer d) Explained Finer place
    ++ told_if (has_rolled d) Explained Roll place

-- ---- marks

abbrev pub have_phases : Pair Observed → Bool
have_phases p = has_phase p.old && has_phase p.new

-- the slip or the half cycle of a phase of both is gone, or has come
abbrev pub mark_is_gone : Pair Observed → Bool → Bool → Bool
mark_is_gone p old new = have_phases p && old && not new

-- why a slip is gone: it is lost, or the new file fills a gap, or it is the first phase of the old file
abbrev pub gone_slip_lines : List (Pair Observed) → Bool → Place → List Difference
gone_slip_lines earlier is_gone place =
    told_if (is_gone && had_phase earlier && not (fills_gap earlier)) Lost Slip place
    ++ told_if (is_gone && had_phase earlier && fills_gap earlier) Explained FilledSlip place
    ++ told_if (is_gone && not (had_phase earlier)) Explained FirstSlip place

abbrev pub slip_lines : List (Pair Observed) → Pair Observed → Place → List Difference
slip_lines earlier p place =
    gone_slip_lines earlier (mark_is_gone p p.old.slip p.new.slip) place
    ++ told_if (mark_is_gone p p.new.slip p.old.slip) Explained NewSlip place

-- a half cycle that has come is explained by the finer message, since a 1004 tells none
abbrev pub half_lines : Distances → Pair Observed → Place → List Difference
half_lines d p place =
    told_if (mark_is_gone p p.old.half p.new.half) Lost HalfCycle place
    ++ told_if (mark_is_gone p p.new.half p.old.half && not (is_finer d)) Changed HalfCycle place

-- ---- Doppler shifts

-- a Doppler shift is gone, if both files show them, or has changed. All messages that tell a rate tell it in the same
-- units, so none is finer
abbrev pub shift_lines : Bool → Pair Observed → Place → List Difference
shift_lines shifts p place =
    told_if (shifts && is_gone p.old.doppler_millihertz p.new.doppler_millihertz) Lost Doppler place
    ++ told_if (is_other_number p.old.doppler_millihertz p.new.doppler_millihertz) Changed Doppler place

-- ---- the cell

-- the differences of a cell, after these earlier ones of the satellite and code, newest first; both files show Doppler
-- shifts (true), or not
unfoldable pub cell_lines : Bool → List (Pair Observed) → Pair Observed → Place → List Difference
cell_lines shifts earlier p place =
    gone_lines p place ++ value_lines (distances_of earlier p) place ++ slip_lines earlier p place ++ half_lines (distances_of earlier p) p place
    ++ shift_lines shifts p place
