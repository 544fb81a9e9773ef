-- The picture in SVG of a file of any systems (this project's rule). The bands of a group of satellites stand as in a picture of
-- GPS, moved down to the end of the bands before them, and the name of a system stands above its first band. Their lines always lie
-- close, since such a file mostly has more than 48.
use Rattle.std.specs.Prelude.{◌≡◌, ℕ, ◌+◌, ◌-◌, ◌*◌, ◌==◌, Bool, true, false, not, List, [], ◌∷◌, ◌++◌, length, map, replicate, get_or, min, codes, Option, None, Some, if◌then◌else◌}
use Rattle.std.specs.List.{fold, range_with_len}
use Rattle.rtk_message.specs.declared.system.System.{System}
use Rattle.rtk_message.specs.declared.system.System.TheVariants.{Gps, Glonass, Galileo, Beidou, Qzss, Sbas, Navic}
use Rattle.rtk_obs.specs.declared.any_code.AnyCode.{AnyCode}
use Rattle.rtk_obs.specs.AnyCode.{name_of}
use Rattle.rtk_obs.specs.declared.code.Band.{Band}
use Rattle.rtk_obs.specs.declared.code.Band.TheVariants.{L1, L2, L5}
use Rattle.rtk_rinex.specs.MixedTable.{MixedTable, IsMixedTable, mixed_table_text}
use Rattle.rtk_rinex.specs.Record.{EpochTableView}
use Rattle.rtk_tracking.specs.Epochs.{capped, newest_first}
use Rattle.rtk_tracking.specs.Interval.{interval_of_epochs, missing_in}
use Rattle.rtk_tracking.specs.SystemCodes.{codes_of_system}
use Rattle.rtk_chart.specs.Grid.{bins_of, outages_of, gaps_of}
use Rattle.rtk_chart.specs.Groups.{drawn_in_order, first_group, second_group, group_epochs}
use Rattle.rtk_chart.specs.Means.{all_without, columns_of, bins_per_column}
use Rattle.rtk_chart.specs.MixedChart.{no_drawn_numbers, drawn_numbers_at, both_numbers}
use Rattle.rtk_chart.specs.Scale.{scale_of}
use Rattle.rtk_chart.specs.SvgPath.{tracked_counts}
use Rattle.rtk_chart.specs.SvgPicture.{number_between, band_top, bands_text, never_texts, lacked_before, gaps_band, satellites_band, svg_tick_step, ticks_text, svg_start, svg_span, svg_numbers, svg_legend, svg_of_none}
use Rattle.rtk_chart.specs.SvgStrip.{strip_height, strip_text}
use Rattle.rtk_chart.specs.TextPicture.{satellites_in}
use Rattle.rtk_chart.specs.declared.choice.Choice.{Choice}
use Rattle.rtk_chart.specs.declared.drawn.DrawnNumbers.{DrawnNumbers}
use Rattle.rtk_chart.specs.declared.groups.Group.{Group}
use Rattle.rtk_chart.specs.declared.groups.Names.{Names}
use Rattle.rtk_chart.specs.declared.scale.Scale.{Scale}
use Rattle.rtk_chart.specs.declared.spacing.Spacing.TheVariants.{Close}
use Rattle.rtk_chart.specs.declared.strengths.BandStrengths.{BandStrengths}
use Rattle.rtk_chart.specs.declared.strengths.Strengths.{Strengths}
use Rattle.rtk_chart.specs.declared.time_bin.TimeBin.{TimeBin}

-- ---- bands of frequencies

-- table
-- the band of a code in the strip of the bands 1, 2 and 5, by the first character of its name
abbrev pub lower_band : List ℕ → Option Band
lower_band name =
    if get_or name 0 0 == 49 then Some L1 else if get_or name 0 0 == 50 then Some L2 else if get_or name 0 0 == 53 then Some L5 else None

-- table
-- and in that of the bands 6, 7 and 8
abbrev pub upper_band : List ℕ → Option Band
upper_band name =
    if get_or name 0 0 == 54 then Some L1 else if get_or name 0 0 == 55 then Some L2 else if get_or name 0 0 == 56 then Some L5 else None

abbrev pub lower_of : AnyCode → Option Band
lower_of code = lower_band (name_of code)

abbrev pub upper_of : AnyCode → Option Band
upper_of code = upper_band (name_of code)

-- ---- sums over groups

-- formula
-- numbers of satellites in bins, each at most 255
abbrev pub both_counts : List ℕ → List ℕ → ℕ → ℕ
both_counts these more c = min (get_or these c 0 + get_or more c 0) 255

abbrev pub counts_with : List ℕ → List ℕ → List ℕ
counts_with these more = map (both_counts these more) (range_with_len 0 (length these))

-- the strengths of these satellites and of others
abbrev pub both_strengths : BandStrengths → BandStrengths → BandStrengths
both_strengths a b = record { count = capped (a.count + b.count); sum = capped (a.sum + b.sum) }

abbrev pub both_columns : List Strengths → List Strengths → ℕ → Strengths
both_columns these more c = record {
  l1 = both_strengths (get_or these c all_without).l1 (get_or more c all_without).l1;
  l2 = both_strengths (get_or these c all_without).l2 (get_or more c all_without).l2;
  l5 = both_strengths (get_or these c all_without).l5 (get_or more c all_without).l5;
}

abbrev pub columns_with : List Strengths → List Strengths → List Strengths
columns_with these more = map (both_columns these more) (range_with_len 0 144)

-- ---- what is drawn

-- what is drawn of some satellites: their bands, how far from the top these end, the lines of the codes that they have nowhere and how
-- many these are, their numbers, in each bin how many have a phase, and their strengths
pub record SvgView : Type 0 where
  pub bands : List ℕ
  pub top : ℕ
  pub never : List ℕ
  pub lines : ℕ
  pub numbers : DrawnNumbers
  pub tracked : List ℕ
  pub lower : List Strengths
  pub upper : List Strengths

abbrev pub nothing_in_svg : ℕ → SvgView
nothing_in_svg n = record {
  bands = [];
  top = 106;
  never = [];
  lines = 0;
  numbers = no_drawn_numbers;
  tracked = replicate n 0;
  lower = replicate 144 all_without;
  upper = replicate 144 all_without;
}

-- table
-- the name of a system above its bands
abbrev pub svg_title : System → List ℕ
svg_title Gps = codes "GPS"
svg_title Glonass = codes "GLONASS"
svg_title Galileo = codes "Galileo"
svg_title Beidou = codes "BeiDou"
svg_title Qzss = codes "QZSS"
svg_title Sbas = codes "SBAS"
svg_title Navic = codes "NavIC"

-- formula
-- the name at its place, 28 units below the bands before it
unfoldable pub svg_heading : System → ℕ → List ℕ
svg_heading system top = number_between (codes "<text class='system' x='110' y='") (top + 28) (codes "'>") ++ svg_title system ++ codes "</text>\n"

-- a group behind another one of its system has none
abbrev pub heading_if_first : Bool → System → ℕ → List ℕ
heading_if_first first system top = if first then svg_heading system top else []

-- formula
-- how high it is
abbrev pub heading_height : Bool → ℕ
heading_height first = if first then 34 else 0

-- formula
-- bands of which the first begins so far from the top
unfoldable pub moved_bands : ℕ → List ℕ → List ℕ
moved_bands top bands = number_between (codes "<g transform='translate(0 ") (top - 140) (codes ")'>\n") ++ bands ++ codes "</g>\n"

-- formula
-- with satellites more, which have these codes, names, bins, outages, numbers and strengths
abbrev pub with_some_bins : System → Bool → List (List ℕ) → Names → List TimeBin → List Bool → DrawnNumbers → List Strengths → List Strengths → SvgView → SvgView
with_some_bins system first listed names bins outages numbers lower upper v = record {
  bands = v.bands ++ heading_if_first first system v.top ++ moved_bands (v.top + heading_height first) (bands_text names Close listed bins outages);
  top = v.top + heading_height first + (band_top Close bins (length listed) 32 - 140);
  never = v.never ++ never_texts names bins (18 + 24 * v.lines) 0 listed;
  lines = v.lines + lacked_before bins (length listed);
  numbers = both_numbers v.numbers numbers;
  tracked = counts_with v.tracked (tracked_counts bins);
  lower = columns_with v.lower lower;
  upper = columns_with v.upper upper;
}

-- without a row there is nothing more
abbrev pub with_svg_bins : System → Bool → List (List ℕ) → Names → List TimeBin → List Bool → DrawnNumbers → List Strengths → List Strengths → SvgView → SvgView
with_svg_bins system first listed names bins outages numbers lower upper v =
    if satellites_in bins == 0 then v else with_some_bins system first listed names bins outages numbers lower upper v

-- with the satellites of a group, which has these codes, of a file with these epochs, newest first
abbrev pub with_svg_epochs : Scale → System → Bool → List AnyCode → Names → List EpochTableView → SvgView → SvgView
with_svg_epochs s system first listed names es v =
    with_svg_bins system first (map name_of listed) names (bins_of s es) (outages_of s es) (drawn_numbers_at s es)
    (columns_of s (map lower_of listed) es) (columns_of s (map upper_of listed) es) v

abbrev pub with_svg_group : Scale → Choice → List EpochTableView → System → Bool → List AnyCode → Group → SvgView → SvgView
with_svg_group s choice es system first listed g v = with_svg_epochs s system first listed g.names (group_epochs choice g es) v

-- a group has a row
abbrev pub is_group_drawn : Scale → Choice → List EpochTableView → Group → Bool
is_group_drawn s choice es g = not (satellites_in (bins_of s (group_epochs choice g es)) == 0)

abbrev pub with_second_group : Scale → Choice → List EpochTableView → System → List AnyCode → Group → SvgView → SvgView
with_second_group s choice es system listed g v =
    if g.count == 0 then v else with_svg_group s choice es system (not (is_group_drawn s choice es (first_group system))) listed g v

-- a system of which the file lists these codes; without a code it has no satellite
abbrev pub with_svg_listed : Scale → Choice → List EpochTableView → System → List AnyCode → SvgView → SvgView
with_svg_listed s choice es system [] v = v
with_svg_listed s choice es system (c ∷ cs) v =
    with_second_group s choice es system (c ∷ cs) (second_group system) (with_svg_group s choice es system true (c ∷ cs) (first_group system) v)

-- what is drawn, and then a system of a file of these codes
abbrev pub with_svg_system : Scale → Choice → List EpochTableView → List AnyCode → SvgView → System → SvgView
with_svg_system s choice es listed v system = with_svg_listed s choice es system (codes_of_system system listed) v

-- formula
-- all systems of a file, in its order
unfoldable pub svg_of_systems : Scale → Choice → List EpochTableView → List AnyCode → SvgView
svg_of_systems s choice es listed = fold (with_svg_system s choice es listed) (nothing_in_svg s.bins) drawn_in_order

-- ---- the picture

-- how far from the top the lines end that name the codes that satellites have nowhere
abbrev pub systems_end : SvgView → ℕ
systems_end v = v.top + 24 * v.lines

-- how high all strips are
abbrev pub strips_height : SvgView → ℕ
strips_height v = strip_height v.lower + strip_height v.upper

-- formula
-- the lines of the codes that satellites have nowhere, below the bands
unfoldable pub never_group : SvgView → List ℕ
never_group v = number_between (codes "<g transform='translate(0 ") v.top (codes ")'>\n") ++ v.never ++ codes "</g>\n"

-- the strips, so far from the top
unfoldable pub both_strips : ℕ → Scale → SvgView → List ℕ
both_strips top s v =
    strip_text false top v.lower (bins_per_column s) s.bins ++ strip_text true (top + strip_height v.lower) v.upper (bins_per_column s) s.bins

-- formula
-- what stands below the heading
unfoldable pub systems_svg_body : Scale → SvgView → List Bool → List ℕ
systems_svg_body s v gaps =
    v.bands ++ never_group v
    ++ gaps_band (systems_end v) gaps ++ satellites_band (systems_end v + 26) v.tracked
    ++ both_strips (systems_end v + 72) s v
    ++ ticks_text s (svg_tick_step s) (systems_end v + strips_height v + 72) ++ svg_legend (systems_end v + strips_height v + 104) ++ codes "</svg>\n"

-- formula
unfoldable pub systems_svg : List ℕ → Scale → ℕ → SvgView → ℕ → List Bool → List ℕ
systems_svg marker s records v missing gaps =
    svg_start marker (systems_end v + strips_height v + 230) ++ svg_span s
    ++ svg_numbers records v.numbers.satellites v.numbers.slips v.numbers.returns v.numbers.rises missing ++ systems_svg_body s v gaps

abbrev pub systems_svg_at : List ℕ → List AnyCode → Choice → Scale → List EpochTableView → List ℕ
systems_svg_at marker listed choice s es =
    systems_svg marker s (capped (length es)) (svg_of_systems s choice es listed) (capped (missing_in s.unit es)) (gaps_of s es)

abbrev pub systems_svg_of_epochs : List ℕ → List AnyCode → ℕ → Option ℕ → Choice → List EpochTableView → List ℕ
systems_svg_of_epochs marker listed first interval choice [] = svg_of_none marker
systems_svg_of_epochs marker listed first interval choice (e ∷ before) =
    systems_svg_at marker listed choice (scale_of first e.time interval 1440) (e ∷ before)

-- formula
-- a text is the picture in SVG of a choice of each table of any systems whose text the file is
abbrev pub ShowsSystemsInSvg : Choice → List ℕ → List ℕ → Type 0
ShowsSystemsInSvg choice file text =
    (t : MixedTable) → IsMixedTable t → file ≡ mixed_table_text t
    → text ≡ systems_svg_of_epochs t.head.marker t.head.listed t.first (interval_of_epochs t.epochs) choice (newest_first t.epochs)
