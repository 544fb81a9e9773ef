-- Laws of the size of a picture in SVG.
use Rattle.std.specs.Prelude.{◌≡◌, ◌≤◌, ◌<◌, ℕ, ◌+◌, ◌*◌, ◌^◌, true, Bool, List, ◌++◌, length, All}
use Rattle.std.specs.Option.{ForSome}
use Rattle.rtk_obs.specs.declared.code.Code.{Code}
use Rattle.rtk_rinex.specs.Record.{EpochTableView}
use Rattle.rtk_chart.specs.Signs.{is_drawn}
use Rattle.rtk_chart.specs.Scale.{IsScale}
use Rattle.rtk_chart.specs.Grid.{bins_of, outages_of}
use Rattle.rtk_chart.specs.Means.{bands_of, columns_of}
use Rattle.rtk_chart.specs.TextPicture.{satellites_in}
use Rattle.rtk_chart.specs.SvgPicture.{codes_before, lines_before, lacked_before, code_line, bands_text, svg_start}
use Rattle.rtk_chart.specs.Chart.{svg_at}
use Rattle.rtk_chart.specs.Size.{picture_height, forms_in_bar, forms_in_bands}
use Rattle.rtk_chart.specs.declared.groups.Names.{Names}
use Rattle.rtk_chart.specs.declared.time_bin.TimeBin.{TimeBin}
use Rattle.rtk_chart.specs.declared.scale.Scale.{Scale}
use Rattle.rtk_chart.specs.declared.strengths.Strengths.{Strengths}
use Rattle.rtk_chart.specs.declared.spacing.Spacing.{Spacing}

-- a picture in SVG begins with its height, which is that of what it has
abbrev pub SvgHasItsHeight : Type 0
SvgHasItsHeight =
    (marker : List ℕ) (listed : List Code) (s : Scale) (es : List EpochTableView)
    → (rest : List ℕ) × (svg_at marker listed s es ≡ svg_start marker (picture_height (bins_of s es) (length listed) (columns_of s (bands_of listed) es)) ++ rest)

-- a satellite that is drawn has two bars or more
abbrev pub HaveTwoBars : List TimeBin → ℕ → Type 0
HaveTwoBars bins listed = (place : ℕ) → place < 32 → is_drawn bins place ≡ true → 2 ≤ codes_before bins place listed

-- a picture of at most 40 satellites, with two bars or more of each and at most 130 of all, and with at most one line `never`, is
-- less than 2,000 units high
abbrev pub DaysFitScreen : Type 0
DaysFitScreen =
    (bins : List TimeBin) (listed : ℕ) (columns : List Strengths)
    → satellites_in bins ≤ 40 → HaveTwoBars bins listed → lines_before bins listed 32 ≤ 130 → lacked_before bins listed ≤ 1
    → picture_height bins listed columns < 2000

-- no picture of a file, which has at most 16 codes, is higher than 6,140 units
abbrev pub NoneIsHigher : Type 0
NoneIsHigher = (bins : List TimeBin) (listed : ℕ) (columns : List Strengths) → listed ≤ 16 → picture_height bins listed columns ≤ 6140

-- the line of a code of a satellite, which has a name of two characters at most, in a picture of at most 1,440 bins, has at most 620 bytes, and 22 more for each box and mark
abbrev pub BarsAreSmall : Type 0
BarsAreSmall =
    (names : Names) (spacing : Spacing) (bins : List TimeBin) (place at : ℕ) (name : List ℕ) → length name ≤ 2 → length bins ≤ 1440 → at < 16
    → length (code_line names spacing bins place at name) ≤ 620 + 22 * forms_in_bar bins place at

-- so it has at most 222,380 bytes, whatever the file
abbrev pub NoBarIsLarger : Type 0
NoBarIsLarger =
    (names : Names) (spacing : Spacing) (bins : List TimeBin) (place at : ℕ) (name : List ℕ) → length name ≤ 2 → length bins ≤ 1440 → at < 16
    → length (code_line names spacing bins place at name) ≤ 222_380

-- the bands of a picture, of a file of at most 16 codes, have at most 260 bytes for each satellite, 620 for each bar, and 22 for each
-- box and mark
abbrev pub BandsAreSmall : Type 0
BandsAreSmall =
    (names : Names) (spacing : Spacing) (listed : List (List ℕ)) (bins : List TimeBin) (outages : List Bool)
    → All (λ name. length name ≤ 2) listed → length listed ≤ 16 → length bins ≤ 1440
    → length (bands_text names spacing listed bins outages)
    ≤ 260 * satellites_in bins + 620 * lines_before bins (length listed) 32 + 22 * forms_in_bands bins outages (length listed)

-- the whole picture of a file has 260,000 bytes more at most. Its marker has at most 60 characters, and its interval is below 2^64 ms
abbrev pub PicturesAreSmall : Type 0
PicturesAreSmall =
    (marker : List ℕ) (listed : List Code) (s : Scale) (es : List EpochTableView)
    → length marker ≤ 60 → length listed ≤ 16 → IsScale s → ForSome s.interval (λ ms. ms < 2 ^ 64)
    → length (svg_at marker listed s es)
    ≤ 260_000 + 260 * satellites_in (bins_of s es) + 620 * lines_before (bins_of s es) (length listed) 32
    + 22 * forms_in_bands (bins_of s es) (outages_of s es) (length listed)

-- so a picture of at most 40 satellites, 130 bars, and 29,000 boxes and marks has less than 1 MB
abbrev pub DaysAreSmall : Type 0
DaysAreSmall =
    (marker : List ℕ) (listed : List Code) (s : Scale) (es : List EpochTableView)
    → length marker ≤ 60 → length listed ≤ 16 → IsScale s → ForSome s.interval (λ ms. ms < 2 ^ 64)
    → satellites_in (bins_of s es) ≤ 40 → lines_before (bins_of s es) (length listed) 32 ≤ 130
    → forms_in_bands (bins_of s es) (outages_of s es) (length listed) ≤ 29_000
    → length (svg_at marker listed s es) < 1_000_000
