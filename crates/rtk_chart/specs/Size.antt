-- How high a picture in SVG is (this project's rule), by what it has: rows of bars, satellites, lines `never` and lanes of
-- strengths. And how many boxes and marks the bar of a code has.
use Rattle.std.specs.Prelude.{ℕ, ◌+◌, ◌*◌, Bool, false, not, ◌&&◌, List, [], ◌∷◌, length, max, count_by, is_some, if◌then◌else◌}
use Rattle.std.specs.List.{range_with_len, sum_by}
use Rattle.rtk_obs.specs.declared.code.Band.TheVariants.{L1, L2, L5}
use Rattle.rtk_chart.specs.Signs.{is_drawn, has_code}
use Rattle.rtk_chart.specs.Means.{least_mean}
use Rattle.rtk_chart.specs.TextPicture.{satellites_in}
use Rattle.rtk_chart.specs.SvgPicture.{layer_flags, columns_of, outage_flags, codes_before, lacked_before, spacing_of}
use Rattle.rtk_chart.specs.declared.time_bin.TimeBin.{TimeBin}
use Rattle.rtk_chart.specs.declared.strengths.Strengths.{Strengths}
use Rattle.rtk_chart.specs.declared.layer.Layer.TheVariants.{Level, Part, Absent, Slip, Return, Rise, Half}
use Rattle.rtk_chart.specs.declared.spacing.Spacing.{Spacing}
use Rattle.rtk_chart.specs.declared.spacing.Spacing.TheVariants.{Wide, Close}

-- formula
-- how many rows a satellite takes: one for each bar, and for its name one at least, or two close ones
abbrev pub rows_for : Spacing → ℕ → ℕ
rows_for Wide bars = max bars 1
rows_for Close bars = max bars 2

-- a satellite that is not drawn takes none
abbrev pub rows_if_drawn : Spacing → List TimeBin → ℕ → ℕ → ℕ
rows_if_drawn spacing bins listed place = if is_drawn bins place then rows_for spacing (codes_before bins place listed) else 0

-- how many rows all satellites take, in a file of so many codes
unfoldable pub rows_in : Spacing → List TimeBin → ℕ → ℕ
rows_in spacing bins listed = sum_by (rows_if_drawn spacing bins listed) (range_with_len 0 32)

-- how many bands have a strength, and so a lane
unfoldable pub lanes_in : List Strengths → ℕ
lanes_in columns = count_by (λ band. is_some (least_mean band columns)) (L1 ∷ L2 ∷ L5 ∷ [])

-- formula
-- a picture is 370 units high, and 24 more for each line `never`, and 46 for each lane; for each row it is 22 more, and for each
-- satellite 14; rows that lie close take 10, and their satellites 4
abbrev pub height_for : Spacing → ℕ → ℕ → ℕ → ℕ → ℕ
height_for Wide rows satellites nevers lanes = 370 + 24 * nevers + 46 * lanes + 22 * rows + 14 * satellites
height_for Close rows satellites nevers lanes = 370 + 24 * nevers + 46 * lanes + 10 * rows + 4 * satellites

-- the height of a picture with these bins and strengths, of a file of so many codes
unfoldable pub picture_height : List TimeBin → ℕ → List Strengths → ℕ
picture_height bins listed columns =
    height_for (spacing_of bins listed) (rows_in (spacing_of bins listed) bins listed) (satellites_in bins) (lacked_before bins listed) (lanes_in columns)

-- ---- boxes and marks

-- how many boxes lie over bins with the mark, from a place on: one over bins side by side
abbrev pub boxes_from : Bool → List Bool → ℕ
boxes_from was [] = 0
boxes_from was (now ∷ rest) = if now && not was then 1 + boxes_from now rest else boxes_from now rest

unfoldable pub boxes_over : List Bool → ℕ
boxes_over flags = boxes_from false flags

-- how many boxes and marks the bar of a code has: a box over bins side by side with the same strength, or in which the code is
-- missing, and a mark in each bin with a slip, a half cycle, a return or a rise
unfoldable pub forms_in_bar : List TimeBin → ℕ → ℕ → ℕ
forms_in_bar bins place code =
    sum_by (λ level. boxes_over (layer_flags bins place code (Level level))) (range_with_len 0 10)
    + boxes_over (layer_flags bins place code Part) + boxes_over (layer_flags bins place code Absent)
    + columns_of bins place code Slip + columns_of bins place code Half + columns_of bins place code Return + columns_of bins place code Rise

-- a code that the satellite has nowhere has no bar
abbrev pub forms_if_had : List TimeBin → ℕ → ℕ → ℕ
forms_if_had bins place code = if has_code bins place code then forms_in_bar bins place code else 0

-- how many boxes and marks the band of a satellite has, in a file of so many codes: a box over bins side by side in which it is
-- out, and those of its bars
unfoldable pub forms_in_band : List TimeBin → List Bool → ℕ → ℕ → ℕ
forms_in_band bins outages listed place =
    boxes_over (outage_flags outages (length bins) place) + sum_by (forms_if_had bins place) (range_with_len 0 listed)

-- a satellite that is not drawn has no band
abbrev pub forms_if_drawn : List TimeBin → List Bool → ℕ → ℕ → ℕ
forms_if_drawn bins outages listed place = if is_drawn bins place then forms_in_band bins outages listed place else 0

-- how many all bands have
unfoldable pub forms_in_bands : List TimeBin → List Bool → ℕ → ℕ
forms_in_bands bins outages listed = sum_by (forms_if_drawn bins outages listed) (range_with_len 0 32)
