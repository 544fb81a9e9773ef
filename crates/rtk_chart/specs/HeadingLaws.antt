-- Laws of headings: equal headings tell equal numbers.
use Rattle.std.specs.Prelude.{◌≡◌, ◌<◌, ℕ, ◌+◌, ◌^◌, List, ◌∷◌, ◌++◌, length, count_by, All, Option, None, Some}
use Rattle.std.specs.Int.{IsInRange}
use Rattle.std.specs.Option.{ForSome}
use Rattle.std.specs.List.{list_any, range_with_len}
use Rattle.rtk_obs.specs.declared.code.Code.{Code}
use Rattle.rtk_rinex.specs.Header.{IsMarker}
use Rattle.rtk_rinex.specs.Record.{EpochTableView}
use Rattle.rtk_rinex.specs.Table.{WellFormedTable, IsWellFormedTable}
use Rattle.rtk_tracking.specs.Epochs.{capped, newest_first, observed_in}
use Rattle.rtk_chart.specs.Epochs.{is_seen, slips_in, returns_in, rises_in}
use Rattle.rtk_tracking.specs.Interval.{steps_in, IsInterval, missing_in}
use Rattle.rtk_chart.specs.Scale.{IsScale, unit_of, scale_of, bin_at}
use Rattle.rtk_chart.specs.Grid.{bins_of}
use Rattle.rtk_chart.specs.TextPicture.{satellites_in, text_heading, number_lines}
use Rattle.rtk_chart.specs.SvgPicture.{svg_span, svg_numbers}
use Rattle.rtk_chart.specs.Chart.{slips_at, returns_at, rises_at, text_at, svg_at}
use Rattle.rtk_chart.specs.declared.scale.Scale.{Scale}

-- how many satellites have a row in some of these epochs
unfoldable pub satellites_shown_in : List EpochTableView → ℕ
satellites_shown_in es = count_by (λ place. list_any (λ e. is_seen (observed_in (place + 1) e.rows)) es) (range_with_len 0 32)

-- the epochs of a file, newest first, at a scale on which each of them has its bin; its numbers are
-- below 2^64
pub record HasNumbers (s : Scale) (es : List EpochTableView) : Type 0 where
  pub scale : IsScale s
  pub bins : All (λ e. bin_at s e.time < s.bins) es
  pub interval : ForSome s.interval (λ ms. ms < 2 ^ 64)
  pub records : length es < 2 ^ 64
  pub slips : slips_in s.interval es < 2 ^ 64
  pub returns : returns_in s.interval es < 2 ^ 64
  pub rises : rises_in s.interval es < 2 ^ 64
  pub missing : missing_in s.unit es < 2 ^ 64

-- a table with these epochs, newest first, has them at the scale of its picture, whatever room there is
abbrev pub TablesHaveNumbers : Type 0
TablesHaveNumbers =
    (t : WellFormedTable) (interval : Option ℕ) (allowed : ℕ) (e : EpochTableView) (before : List EpochTableView)
    → IsWellFormedTable t → newest_first t.epochs ≡ e ∷ before → IsInterval (steps_in (e ∷ before)) interval → IsInRange 1 1440 allowed
    → length (e ∷ before) < 2 ^ 64 → slips_in interval (e ∷ before) < 2 ^ 64 → returns_in interval (e ∷ before) < 2 ^ 64
    → rises_in interval (e ∷ before) < 2 ^ 64 → missing_in (unit_of interval) (e ∷ before) < 2 ^ 64
    → HasNumbers (scale_of t.first e.time interval allowed) (e ∷ before)

-- bins are equally long; a heading tells their length if there is an interval
abbrev pub HaveSameBins : Option ℕ → ℕ → ℕ → Type 0
HaveSameBins None a b = Unit {0}
HaveSameBins (Some interval) a b = a ≡ b

-- two files have the same numbers
pub record HaveSameNumbers (s t : Scale) (es fs : List EpochTableView) : Type 0 where
  pub first : s.first ≡ t.first
  pub last : s.last ≡ t.last
  pub interval : s.interval ≡ t.interval
  pub bin : HaveSameBins s.interval s.bin_ms t.bin_ms
  pub records : length es ≡ length fs
  pub satellites : satellites_shown_in es ≡ satellites_shown_in fs
  pub slips : slips_in s.interval es ≡ slips_in t.interval fs
  pub returns : returns_in s.interval es ≡ returns_in t.interval fs
  pub rises : rises_in s.interval es ≡ rises_in t.interval fs
  pub missing : missing_in s.unit es ≡ missing_in t.unit fs

-- the heading of a picture in characters
abbrev pub heading_in_text : List ℕ → Scale → List EpochTableView → List ℕ
heading_in_text marker s es =
    text_heading marker s
    ++ number_lines s (capped (length es)) (satellites_in (bins_of s es)) (slips_at s es) (returns_at s es) (rises_at s es)
    (capped (missing_in s.unit es))

-- the heading of a picture in SVG, which stands behind its marker
abbrev pub heading_in_svg : Scale → List EpochTableView → List ℕ
heading_in_svg s es =
    svg_span s
    ++ svg_numbers (capped (length es)) (satellites_in (bins_of s es)) (slips_at s es) (returns_at s es) (rises_at s es)
    (capped (missing_in s.unit es))

-- a picture in characters begins with its heading
abbrev pub TextHasHeading : Type 0
TextHasHeading =
    (marker : List ℕ) (listed : List Code) (width : ℕ) (s : Scale) (es : List EpochTableView)
    → (rest : List ℕ) × (text_at marker listed width s es ≡ heading_in_text marker s es ++ rest)

-- a picture in SVG has its heading
abbrev pub SvgHasHeading : Type 0
SvgHasHeading =
    (marker : List ℕ) (listed : List Code) (s : Scale) (es : List EpochTableView)
    → (front : List ℕ) × (rest : List ℕ) × (svg_at marker listed s es ≡ front ++ heading_in_svg s es ++ rest)

-- two files whose pictures in characters have equal headings have the same marker and the same numbers
abbrev pub EqualTextHeadings : Type 0
EqualTextHeadings =
    (m n : List ℕ) (s t : Scale) (es fs : List EpochTableView) → IsMarker m → IsMarker n → HasNumbers s es → HasNumbers t fs
    → heading_in_text m s es ≡ heading_in_text n t fs → (m ≡ n) × HaveSameNumbers s t es fs

-- two files whose pictures in SVG have equal headings have the same numbers
abbrev pub EqualSvgHeadings : Type 0
EqualSvgHeadings =
    (s t : Scale) (es fs : List EpochTableView) → HasNumbers s es → HasNumbers t fs → heading_in_svg s es ≡ heading_in_svg t fs
    → HaveSameNumbers s t es fs
