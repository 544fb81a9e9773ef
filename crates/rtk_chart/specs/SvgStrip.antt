-- The strip of strengths in an SVG picture (this project's rule): a lane for each band, 46 units high.
use Rattle.std.specs.Prelude.{ℕ, Bool, ◌+◌, ◌-◌, ◌*◌, ◌/◌, ◌==◌, List, [], ◌∷◌, ◌++◌, length, get_or, map, max, codes, decimal, Option, None, Some, is_some, unwrap_or, if◌then◌else◌}
use Rattle.std.specs.List.{range_with_len}
use Rattle.rtk_obs.specs.declared.code.Band.{Band}
use Rattle.rtk_obs.specs.declared.code.Band.TheVariants.{L1, L2, L5}
use Rattle.rtk_chart.specs.Means.{number_of, all_without, mean_at, least_mean, greatest_mean}
use Rattle.rtk_chart.specs.SvgPath.{edge_of}
use Rattle.rtk_chart.specs.declared.strengths.Strengths.{Strengths}
use Rattle.rtk_chart.specs.declared.svg_strip.Reach.{Reach}

-- ---- the scale of a lane

-- formula
-- from which strength to which a lane reaches, in whole dB-Hz: it has all means, and 12 dB or more
abbrev pub reach_between : ℕ → ℕ → Reach
reach_between least greatest = record { from = least / 1000; until = max (least / 1000 + 12) (greatest / 1000 + 1) }

abbrev pub reach_of : Band → List Strengths → Reach
reach_of band columns = reach_between (unwrap_or (least_mean band columns) 0) (unwrap_or (greatest_mean band columns) 0)

-- formula
-- how far from the top of its lane a mean lies: 40 units at the lower end of the scale, and 4 at the upper one
abbrev pub depth_of : Reach → Option ℕ → Option ℕ
depth_of reach None = None
depth_of reach (Some mean) = Some (40 - (mean - 1000 * reach.from) * 36 / (1000 * (reach.until - reach.from)))

-- the same of the column of a bin, if columns have so many bins
abbrev pub depth_at : Band → List Strengths → Reach → ℕ → ℕ → Option ℕ
depth_at band columns reach each bin = depth_of reach (mean_at band (get_or columns (bin / each) all_without))

-- of so many bins
abbrev pub depths_of : Band → List Strengths → Reach → ℕ → ℕ → List (Option ℕ)
depths_of band columns reach each n = map (depth_at band columns reach each) (range_with_len 0 n)

-- ---- the form of a lane

-- formula
-- the form between two bins: it begins, ends or steps; its lower side is 44 units from the top
abbrev pub depth_part : ℕ → Option ℕ → Option ℕ → List ℕ
depth_part x None None = []
depth_part x None (Some now) = codes "M" ++ decimal x ++ codes " 44V" ++ decimal now
depth_part x (Some was) None = codes "H" ++ decimal x ++ codes "V44z"
depth_part x (Some was) (Some now) = if now == was then [] else codes "H" ++ decimal x ++ codes "V" ++ decimal now

-- the forms over bins from a place on; the last one ends with the bins
abbrev pub depths_from : ℕ → ℕ → Option ℕ → List (Option ℕ) → List ℕ
depths_from n c was [] = depth_part 1440 was None
depths_from n c was (d ∷ ds) = depth_part (edge_of n c) was d ++ depths_from n (c + 1) d ds

unfoldable pub depths_text : List (Option ℕ) → List ℕ
depths_text ds = depths_from (length ds) 0 None ds

-- ---- the strip

-- formula
-- the beginning of a lane: its band, and the ends of its scale
unfoldable pub lane_start : ℕ → ℕ → Reach → List ℕ
lane_start top number reach =
    (codes "<g transform='translate(110 " ++ decimal top ++ codes ")'>\n<title>mean strength of band ")
    ++ (decimal number ++ codes " in dB-Hz</title>\n<text class='code' x='-6' y='18'>strength</text>\n<text class='code' x='-6' y='38'>of band ")
    ++ (decimal number ++ codes "</text>\n<text class='side' x='1446' y='16'>")
    ++ (decimal reach.until ++ codes "</text>\n<text class='side' x='1446' y='40'>")
    ++ (decimal reach.from ++ codes "</text>\n<path class='k' d='")

-- table
-- a strip has the bands 1, 2 and 5, or the upper ones, 6, 7 and 8, which no code of GPS has
abbrev pub upper_number : Band → ℕ
upper_number L1 = 6
upper_number L2 = 7
upper_number L5 = 8

abbrev pub strip_number : Bool → Band → ℕ
strip_number upper band = if upper then upper_number band else number_of band

-- formula
-- the lane of a band over so many bins
unfoldable pub lane_text : Bool → ℕ → Band → List Strengths → ℕ → ℕ → List ℕ
lane_text upper top band columns each n =
    lane_start top (strip_number upper band) (reach_of band columns) ++ depths_text (depths_of band columns (reach_of band columns) each n) ++ codes "'/>\n</g>\n"

-- formula
-- a band without a strength has no lane
abbrev pub lane_height : Band → List Strengths → ℕ
lane_height band columns = if is_some (least_mean band columns) then 46 else 0

abbrev pub lane_if_measured : Bool → ℕ → Band → List Strengths → ℕ → ℕ → List ℕ
lane_if_measured upper top band columns each n = if is_some (least_mean band columns) then lane_text upper top band columns each n else []

-- formula
unfoldable pub strip_height : List Strengths → ℕ
strip_height columns = lane_height L1 columns + lane_height L2 columns + lane_height L5 columns

-- formula
-- the lanes, one below the other
unfoldable pub strip_text : Bool → ℕ → List Strengths → ℕ → ℕ → List ℕ
strip_text upper top columns each n =
    lane_if_measured upper top L1 columns each n ++ lane_if_measured upper (top + lane_height L1 columns) L2 columns each n
    ++ lane_if_measured upper (top + lane_height L1 columns + lane_height L2 columns) L5 columns each n
