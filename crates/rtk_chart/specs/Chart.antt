-- The pictures of a table.
use Rattle.std.specs.Prelude.{◌≡◌, ℕ, ◌-◌, List, [], ◌∷◌, length, map, Option}
use Rattle.std.specs.Int.{IsInRange}
use Rattle.rtk_rinex.specs.Record.{EpochTableView}
use Rattle.rtk_rinex.specs.Table.{WellFormedTable, IsWellFormedTable, table_text}
use Rattle.rtk_tracking.specs.Epochs.{capped, newest_first}
use Rattle.rtk_chart.specs.Choice.{narrowed}
use Rattle.rtk_chart.specs.Epochs.{slips_in, returns_in, rises_in}
use Rattle.rtk_tracking.specs.Interval.{interval_of_file, missing_in}
use Rattle.rtk_chart.specs.Scale.{scale_of}
use Rattle.rtk_chart.specs.Grid.{bins_of, outages_of, gaps_of, recorded_of}
use Rattle.rtk_chart.specs.Means.{bands_of, columns_of}
use Rattle.rtk_chart.specs.TextPicture.{text_picture, text_of_none}
use Rattle.rtk_chart.specs.SvgPicture.{svg_picture, svg_of_none}
use Rattle.rtk_obs.specs.Code.{name_of}
use Rattle.rtk_obs.specs.declared.code.Code.{Code}
use Rattle.rtk_chart.specs.declared.choice.Choice.{Choice}
use Rattle.rtk_chart.specs.declared.scale.Scale.{Scale}

-- constant
-- the width of a picture in characters (this project's rule)
abbrev pub IsWidth : ℕ → Type 0
IsWidth width = IsInRange 40 400 width

-- the slips of epochs as a picture at a scale counts them
abbrev pub slips_at : Scale → List EpochTableView → ℕ
slips_at s es = capped (slips_in s.interval es)

abbrev pub returns_at : Scale → List EpochTableView → ℕ
returns_at s es = capped (returns_in s.interval es)

abbrev pub rises_at : Scale → List EpochTableView → ℕ
rises_at s es = capped (rises_in s.interval es)

-- the picture in characters of these epochs, newest first, at a scale, of this width
abbrev pub text_at : List ℕ → List Code → ℕ → Scale → List EpochTableView → List ℕ
text_at marker listed width s es =
    text_picture marker listed s width (capped (length es)) (slips_at s es) (returns_at s es) (rises_at s es)
    (capped (missing_in s.unit es)) (bins_of s es) (outages_of s es) (recorded_of s es) (gaps_of s es)

-- the picture of a file of this marker, these codes and this first time, with this interval, so many
-- characters wide: five are the labels and the frame
abbrev pub text_of_epochs : List ℕ → List Code → ℕ → Option ℕ → ℕ → List EpochTableView → List ℕ
text_of_epochs marker listed first interval width [] = text_of_none marker
text_of_epochs marker listed first interval width (e ∷ before) =
    text_at marker listed width (scale_of first e.time interval (width - 5)) (e ∷ before)

-- formula
-- a text is the picture in characters of a table, so many characters wide
abbrev pub IsTextPicture : WellFormedTable → ℕ → List ℕ → Type 0
IsTextPicture t width text =
    text ≡ text_of_epochs t.head.marker t.head.listed t.first (interval_of_file t) width (newest_first t.epochs)

-- a text is the picture of each table whose text the file is; by one_table there is one
abbrev pub ShowsTable : List ℕ → ℕ → List ℕ → Type 0
ShowsTable file width text = (t : WellFormedTable) → IsWellFormedTable t → file ≡ table_text t → IsTextPicture t width text

-- a text is the picture of a choice of each table whose text the file is: the picture of the records narrowed to it
abbrev pub ShowsChosen : Choice → List ℕ → ℕ → List ℕ → Type 0
ShowsChosen choice file width text =
    (t : WellFormedTable) → IsWellFormedTable t → file ≡ table_text t
    → text ≡ text_of_epochs t.head.marker t.head.listed t.first (interval_of_file t) width (map (narrowed choice) (newest_first t.epochs))

-- ---- in SVG

-- the picture in SVG of these epochs, newest first, at a scale
abbrev pub svg_at : List ℕ → List Code → Scale → List EpochTableView → List ℕ
svg_at marker listed s es =
    svg_picture marker (map name_of listed) s (capped (length es)) (slips_at s es) (returns_at s es) (rises_at s es)
    (capped (missing_in s.unit es)) (bins_of s es) (outages_of s es) (gaps_of s es) (columns_of s (bands_of listed) es)

-- formula
-- the picture of a file of this marker, these codes and this first time, with this interval
abbrev pub svg_of_epochs : List ℕ → List Code → ℕ → Option ℕ → List EpochTableView → List ℕ
svg_of_epochs marker listed first interval [] = svg_of_none marker
svg_of_epochs marker listed first interval (e ∷ before) = svg_at marker listed (scale_of first e.time interval 1440) (e ∷ before)

-- a text is the picture in SVG of a table
abbrev pub IsSvgPicture : WellFormedTable → List ℕ → Type 0
IsSvgPicture t text =
    text ≡ svg_of_epochs t.head.marker t.head.listed t.first (interval_of_file t) (newest_first t.epochs)

-- a text is the picture of each table whose text the file is
abbrev pub ShowsTableInSvg : List ℕ → List ℕ → Type 0
ShowsTableInSvg file text = (t : WellFormedTable) → IsWellFormedTable t → file ≡ table_text t → IsSvgPicture t text

-- a text is the picture of a choice of each such table: the picture of the records narrowed to it
abbrev pub ShowsChosenInSvg : Choice → List ℕ → List ℕ → Type 0
ShowsChosenInSvg choice file text =
    (t : WellFormedTable) → IsWellFormedTable t → file ≡ table_text t
    → text ≡ svg_of_epochs t.head.marker t.head.listed t.first (interval_of_file t) (map (narrowed choice) (newest_first t.epochs))
