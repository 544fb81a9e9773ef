-- A picture in SVG (this project's rule). Lengths are in units of the picture, which is 1620 wide:
-- bands begin 110 from the left and 140 from the top, and are 1440 wide.
use Rattle.std.specs.Prelude.{ℕ, ◌+◌, ◌-◌, ◌*◌, ◌/◌, ◌%◌, ◌==◌, nat_lt, Bool, false, not, List, [], ◌∷◌, ◌++◌, length, max, map, flat_map, count_by, codes, decimal, Option, None, Some, if◌then◌else◌}
use Rattle.std.specs.List.{list_any, range_with_len, sum_by}
use Rattle.rtk_obs.specs.Reading.{reading_of}
use Rattle.rtk_obs.specs.CivilText.{civil_text}
use Rattle.rtk_chart.specs.Heading.{seconds_text}
use Rattle.rtk_chart.specs.Ticks.{tick_step, tick_at, tick_label}
use Rattle.rtk_chart.specs.Grid.{tracking_at, marks_at, is_out}
use Rattle.rtk_chart.specs.Signs.{is_drawn, has_code, is_never}
use Rattle.rtk_chart.specs.TextPicture.{gps_names, satellite_label, never_before, drawn_before, satellites_in}
use Rattle.rtk_chart.specs.Means.{bins_per_column}
use Rattle.rtk_chart.specs.SvgStrip.{strip_height, strip_text}
use Rattle.rtk_chart.specs.SvgPath.{edge_of, runs_text, marks_text, tracked_counts, most_tracked, steps_text}
use Rattle.rtk_chart.specs.Layers.{shows}
use Rattle.rtk_chart.specs.declared.svg_picture.TheConstants.{STYLE, SYSTEM, LEGEND}
use Rattle.rtk_chart.specs.declared.groups.Names.{Names}
use Rattle.rtk_chart.specs.declared.scale.Scale.{Scale}
use Rattle.rtk_chart.specs.declared.time_bin.TimeBin.{TimeBin}
use Rattle.rtk_chart.specs.declared.layer.Layer.{Layer}
use Rattle.rtk_chart.specs.declared.strengths.Strengths.{Strengths}
use Rattle.rtk_chart.specs.declared.spacing.Spacing.{Spacing}
use Rattle.rtk_chart.specs.declared.spacing.Spacing.TheVariants.{Wide, Close}
use Rattle.rtk_chart.specs.declared.layer.Layer.TheVariants.{Phase, Level, Missing, Part, Absent, Slip, Return, Rise, Half}

-- ---- text

-- table
-- a character of a text as XML has it
abbrev pub xml_character : ℕ → List ℕ
xml_character x =
    if x == 38 then codes "&amp;"
    else (if x == 60 then codes "&lt;"
    else (if x == 62 then codes "&gt;" else x ∷ []))

-- formula
unfoldable pub xml_text : List ℕ → List ℕ
xml_text text = flat_map xml_character text

-- a number between words
abbrev pub number_between : List ℕ → ℕ → List ℕ → List ℕ
number_between before n after = before ++ decimal n ++ after

-- ---- the bar of a code

-- the bins in which a layer of a code of a satellite is drawn
abbrev pub layer_flags : List TimeBin → ℕ → ℕ → Layer → List Bool
layer_flags bins place code layer = map (λ bin. shows layer (marks_at code (tracking_at place bin))) bins

-- how many they are
abbrev pub columns_of : List TimeBin → ℕ → ℕ → Layer → ℕ
columns_of bins place code layer = count_by (λ b. b) (layer_flags bins place code layer)

-- formula
-- the beginning of a path of a class
unfoldable pub path_start : List ℕ → List ℕ
path_start class = codes "<path class='" ++ class ++ codes "' d='"

-- formula
-- a path of forms over bins, which begin and end in this way
unfoldable pub runs_path : List ℕ → List ℕ → List ℕ → List Bool → List ℕ
runs_path class begin end flags = path_start class ++ runs_text begin end flags ++ codes "'/>\n"

-- nothing where no bin has the mark
abbrev pub runs_layer : List ℕ → List ℕ → List ℕ → List Bool → List ℕ
runs_layer class begin end flags = if list_any (λ b. b) flags then runs_path class begin end flags else []

-- formula
-- a path of a form in bins
unfoldable pub marks_path : List ℕ → List ℕ → List Bool → List ℕ
marks_path class form flags = path_start class ++ marks_text form flags ++ codes "'/>\n"

-- nothing where no bin has the mark
abbrev pub marks_layer : List ℕ → List ℕ → List Bool → List ℕ
marks_layer class form flags = if list_any (λ b. b) flags then marks_path class form flags else []

-- formula
-- the bar where the phase has a least strength digit, in a class of its own
abbrev pub level_path : List TimeBin → ℕ → ℕ → ℕ → List ℕ
level_path bins place code level = runs_layer (108 ∷ (48 + level) ∷ []) (codes " 10") [] (layer_flags bins place code (Level level))

unfoldable pub level_paths : List TimeBin → ℕ → ℕ → List ℕ
level_paths bins place code = flat_map (level_path bins place code) (range_with_len 0 10)

-- formula
-- where the code is missing: a box over the upper half of the bar, or over the place of the whole bar
unfoldable pub missing_paths : List TimeBin → ℕ → ℕ → List ℕ
missing_paths bins place code =
    runs_layer (codes "p") (codes " 10v-6") (codes "v6z") (layer_flags bins place code Part)
    ++ runs_layer (codes "m") (codes " 16v-12") (codes "v12z") (layer_flags bins place code Absent)

-- formula
-- the marks, of which a later one lies over those before it, so the largest come first: a triangle downwards for a slip, a
-- rhomb for a half cycle, a hollow triangle for a return, which ends there and so lies over its outage, and a triangle to the
-- right for a rise
unfoldable pub lock_paths : List TimeBin → ℕ → ℕ → List ℕ
lock_paths bins place code =
    marks_layer (codes "s") (codes " 20l-7-21h14z") (layer_flags bins place code Slip)
    ++ marks_layer (codes "h") (codes " 8l6 6l-6 6l-6-6z") (layer_flags bins place code Half)
    ++ marks_layer (codes "a") (codes " 10l-9-5v10z") (layer_flags bins place code Return)
    ++ marks_layer (codes "r") (codes " 5l9 5l-9 5z") (layer_flags bins place code Rise)

-- formula
-- how many columns have what of a code
unfoldable pub column_numbers : ℕ → ℕ → ℕ → ℕ → ℕ → ℕ → List ℕ
column_numbers phases missing slips returns rises halves =
    number_between (codes ": columns with phase ") phases (codes ", missing ") ++ number_between [] missing (codes ", slips ")
    ++ number_between [] slips (codes ", returns ") ++ number_between [] returns (codes ", rises ")
    ++ number_between [] rises (codes ", half cycles ") ++ number_between [] halves (codes "</title>\n")

unfoldable pub code_numbers : List TimeBin → ℕ → ℕ → List ℕ
code_numbers bins place code =
    column_numbers (columns_of bins place code Phase) (columns_of bins place code Missing) (columns_of bins place code Slip)
    (columns_of bins place code Return) (columns_of bins place code Rise) (columns_of bins place code Half)

-- formula
-- a code that the satellite has: its numbers and its bar
unfoldable pub drawn_bar : List TimeBin → ℕ → ℕ → List ℕ
drawn_bar bins place code = code_numbers bins place code ++ level_paths bins place code ++ missing_paths bins place code ++ lock_paths bins place code

-- how many codes before a place a satellite has
unfoldable pub codes_before : List TimeBin → ℕ → ℕ → ℕ
codes_before bins place at = count_by (has_code bins place) (range_with_len 0 at)

-- how many lines the satellites before a place have: one for each code of theirs
unfoldable pub lines_before : List TimeBin → ℕ → ℕ → ℕ
lines_before bins listed place = sum_by (λ before. codes_before bins before listed) (range_with_len 0 place)

-- constant
-- more than 48 lines lie close, so that a day of all satellites fits a screen
abbrev pub spacing_of : List TimeBin → ℕ → Spacing
spacing_of bins listed = if nat_lt 48 (lines_before bins listed 32) then Close else Wide

-- formula
-- how far from the top of its band a line lies, after so many others: they are 22 units apart, or 10
abbrev pub line_top : Spacing → ℕ → ℕ
line_top Wide lines = 22 * lines + 7
line_top Close lines = 10 * lines + 2

-- table
-- what stands between the place of a line and its title: close lines have bars of half the height
abbrev pub line_start : Spacing → List ℕ
line_start Wide = codes ")'>\n<title>"
line_start Close = codes ")scale(1 .5)'>\n<title>"

-- table
-- what stands before the name of a code at its line
abbrev pub code_start : Spacing → List ℕ
code_start Wide = codes "<text class='code' x='-6' y='16'>"
code_start Close = codes "<text class='code tiny' transform='scale(1 2)' x='-6' y='9'>"

-- formula
-- the line of a code of a satellite, as in G05 1C
unfoldable pub code_line : Names → Spacing → List TimeBin → ℕ → ℕ → List ℕ → List ℕ
code_line names spacing bins place at name =
    number_between (codes "<g transform='translate(0 ") (line_top spacing (codes_before bins place at)) (line_start spacing)
    ++ satellite_label names.letter (names.before + place + 1)
    ++ codes " " ++ name ++ drawn_bar bins place at ++ code_start spacing ++ name ++ codes "</text>\n</g>\n"

-- formula
-- a code that the satellite has nowhere has no line
abbrev pub line_if_had : Names → Spacing → List TimeBin → ℕ → ℕ → List ℕ → List ℕ
line_if_had names spacing bins place at name = if has_code bins place at then code_line names spacing bins place at name else []

-- the codes from a place on, by their names
abbrev pub code_lines : Names → Spacing → List TimeBin → ℕ → ℕ → List (List ℕ) → List ℕ
code_lines names spacing bins place at [] = []
code_lines names spacing bins place at (c ∷ cs) = line_if_had names spacing bins place at c ++ code_lines names spacing bins place (at + 1) cs

-- ---- bands

-- formula
-- the lines, with seven units above and below them, or two; a satellite without a line has the room of one, or of
-- two close ones, so that its name has room
abbrev pub band_height : Spacing → ℕ → ℕ
band_height Wide lines = 22 * max lines 1 + 14
band_height Close lines = 10 * max lines 2 + 4

-- how high the band of a satellite is, in a file of so many codes
abbrev pub height_of : Spacing → List TimeBin → ℕ → ℕ → ℕ
height_of spacing bins listed place = band_height spacing (codes_before bins place listed)

-- a satellite without a row has none
abbrev pub height_if_drawn : Spacing → List TimeBin → ℕ → ℕ → ℕ
height_if_drawn spacing bins listed place = if is_drawn bins place then height_of spacing bins listed place else 0

-- formula
-- how far from the top the band of a satellite begins: below the name of its system and the bands before it
unfoldable pub band_top : Spacing → List TimeBin → ℕ → ℕ → ℕ
band_top spacing bins listed place = 140 + sum_by (height_if_drawn spacing bins listed) (range_with_len 0 place)

-- table
-- what stands before the height at which the name of a satellite lies
abbrev pub name_start : Spacing → List ℕ
name_start Wide = codes "<text class='name' x='-40' y='"
name_start Close = codes "<text class='name low' x='-40' y='"

-- table
-- how far below the middle of its band that name stands
abbrev pub name_drop : Spacing → ℕ
name_drop Wide = 9
name_drop Close = 7

-- formula
-- the beginning of a band: its satellite, and its stripe, 0 for none
unfoldable pub band_start : Spacing → ℕ → ℕ → ℕ → ℕ → ℕ → List ℕ
band_start spacing top letter number stripe height =
    number_between (codes "<g transform='translate(110 ") top (codes ")'>\n<title>") ++ satellite_label letter number
    ++ number_between (codes "</title>\n<rect class='b") stripe (codes "' x='-110' width='1620'")
    ++ number_between (codes " height='") height (codes "'/>\n")
    ++ number_between (name_start spacing) (height / 2 + name_drop spacing) (codes "'>") ++ satellite_label letter number ++ codes "</text>\n"

-- the bins of so many in which a satellite has an outage
abbrev pub outage_flags : List Bool → ℕ → ℕ → List Bool
outage_flags outages n place = map (is_out outages place) (range_with_len 0 n)

-- formula
-- the outages of a satellite in n bins, as boxes over all its codes, so high
unfoldable pub outage_boxes : List Bool → ℕ → ℕ → ℕ → List ℕ
outage_boxes outages n place high =
    runs_layer (codes "o") (number_between (codes " 4v") high []) (number_between (codes "v-") high (codes "z"))
    (outage_flags outages n place)

-- formula
-- the band of a satellite after so many others: every other one has a stripe
unfoldable pub band_text : Names → Spacing → List (List ℕ) → List TimeBin → List Bool → ℕ → ℕ → List ℕ
band_text names spacing listed bins outages place before =
    band_start spacing (band_top spacing bins (length listed) place) names.letter (names.before + place + 1) (before % 2) (height_of spacing bins (length listed) place)
    ++ outage_boxes outages (length bins) place (height_of spacing bins (length listed) place - 8)
    ++ code_lines names spacing bins place 0 listed ++ codes "</g>\n"

-- formula
abbrev pub band_if_drawn : Names → Spacing → List (List ℕ) → List TimeBin → List Bool → ℕ → List ℕ
band_if_drawn names spacing listed bins outages place =
    if is_drawn bins place then band_text names spacing listed bins outages place (drawn_before bins place) else []

-- formula
unfoldable pub bands_text : Names → Spacing → List (List ℕ) → List TimeBin → List Bool → List ℕ
bands_text names spacing listed bins outages = flat_map (band_if_drawn names spacing listed bins outages) (range_with_len 0 32)

-- ---- codes that satellites have nowhere

-- formula
abbrev pub never_name : Names → List TimeBin → ℕ → ℕ → List ℕ
never_name names bins at place = if is_never bins at place then 32 ∷ satellite_label names.letter (names.before + place + 1) else []

-- the name of a code, with the letter of its system unless this is GPS
abbrev pub never_title : Names → List ℕ → List ℕ
never_title names name = if names.letter == 71 then name else names.letter ∷ name

-- some satellite has the code at a place nowhere
abbrev pub is_lacked : List TimeBin → ℕ → Bool
is_lacked bins at = not (never_before bins at 32 == 0)

-- how many such codes stand before a place
unfoldable pub lacked_before : List TimeBin → ℕ → ℕ
lacked_before bins at = count_by (is_lacked bins) (range_with_len 0 at)

-- formula
-- the satellites that have a code nowhere, as in never 5X: G03 G06
unfoldable pub never_text : Names → List TimeBin → ℕ → ℕ → List ℕ → List ℕ
never_text names bins top at name =
    number_between (codes "<text class='never' x='110' y='") (top + 24 * lacked_before bins at) (codes "'>never ") ++ never_title names name ++ codes ":"
    ++ flat_map (never_name names bins at) (range_with_len 0 32) ++ codes "</text>\n"

-- formula
abbrev pub never_if_lacked : Names → List TimeBin → ℕ → ℕ → List ℕ → List ℕ
never_if_lacked names bins top at name = if is_lacked bins at then never_text names bins top at name else []

-- the codes from a place on, with the first line so far from the top
abbrev pub never_texts : Names → List TimeBin → ℕ → ℕ → List (List ℕ) → List ℕ
never_texts names bins top at [] = []
never_texts names bins top at (c ∷ cs) = never_if_lacked names bins top at c ++ never_texts names bins top (at + 1) cs

-- ---- below these lines, so far from the top

-- formula
-- the bins with missing epochs
unfoldable pub gaps_band : ℕ → List Bool → List ℕ
gaps_band top gaps =
    number_between (codes "<g transform='translate(110 ") top (codes ")'>\n<title>missing epochs</title>\n<text class='code' x='-6' y='18'>missing</text>\n")
    ++ runs_layer (codes "g") (codes " 12") [] gaps ++ codes "</g>\n"

-- formula
-- the numbers of satellites with a phase in each bin, and the greatest of them
unfoldable pub satellites_band : ℕ → List ℕ → List ℕ
satellites_band top counts =
    number_between (codes "<g transform='translate(110 ") top (codes ")'>\n<title>satellites with a phase</title>\n<text class='code' x='-6' y='18'>satellites</text>\n")
    ++ number_between (codes "<text class='code' x='-6' y='38'>at most ") (most_tracked counts) (codes "</text>\n<path class='n' d='M0 40")
    ++ steps_text counts ++ codes "H1440V40z'/>\n</g>\n"

-- formula
-- ticks are 144 units apart or more
abbrev pub svg_tick_step : Scale → ℕ
svg_tick_step s = tick_step ((s.bins / 10 + 1) * s.bin_ms)

-- table
-- what stands before the place of a label: at an odd multiple of the step its class says so, since a narrow picture leaves it out
abbrev pub label_start : ℕ → ℕ → List ℕ
label_start step t = if t / step % 2 == 0 then codes "<text class='tick' x='" else codes "<text class='tick odd' x='"

-- formula
-- a tick at x: a line down from the top of the bands, and its label
abbrev pub tick_text : ℕ → ℕ → ℕ → Option ℕ → List ℕ
tick_text top step x None = []
tick_text top step x (Some t) =
    number_between (codes "<path class='t' d='M") x (codes " 106V") ++ number_between [] top (codes "'/>\n")
    ++ number_between (label_start step t) x (codes "' y='") ++ number_between [] (top + 22) (codes "'>")
    ++ tick_label step t ++ codes "</text>\n"

-- formula
unfoldable pub ticks_text : Scale → ℕ → ℕ → List ℕ
ticks_text s step top = flat_map (λ c. tick_text top step (110 + edge_of s.bins c) (tick_at s step c)) (range_with_len 0 s.bins)

-- ---- the heading

-- formula
-- the interval and the length of a bin; nothing without an interval
abbrev pub interval_text : Option ℕ → ℕ → List ℕ
interval_text None bin_ms = []
interval_text (Some ms) bin_ms = codes ", interval " ++ seconds_text ms ++ codes " s, column " ++ seconds_text bin_ms ++ codes " s"

-- formula
-- the span, the interval and the length of a bin
unfoldable pub svg_span : Scale → List ℕ
svg_span s =
    codes "<text x='110' y='72'>" ++ civil_text (reading_of s.first) ++ codes " to " ++ civil_text (reading_of s.last)
    ++ interval_text s.interval s.bin_ms ++ codes "</text>\n"

-- formula
-- the numbers of records, satellites, slips, returns, rises and missing epochs
unfoldable pub svg_numbers : ℕ → ℕ → ℕ → ℕ → ℕ → ℕ → List ℕ
svg_numbers records satellites slips returns rises missing =
    number_between (codes "<text x='110' y='98'>records ") records (codes ", satellites ")
    ++ number_between [] satellites (codes ", slips ") ++ number_between [] slips (codes ", returns ")
    ++ number_between [] returns (codes ", rises ") ++ number_between [] rises (codes ", missing epochs ")
    ++ number_between [] missing (codes "</text>\n")

-- formula
-- the beginning of a picture so high
unfoldable pub svg_start : List ℕ → ℕ → List ℕ
svg_start marker height =
    number_between (codes "<svg xmlns='http://www.w3.org/2000/svg' viewBox='0 0 1620 ") height (codes "'>\n<title>")
    ++ xml_text marker ++ codes "</title>\n" ++ STYLE.now
    ++ number_between (codes "<rect class='page' width='1620' height='") height (codes "'/>\n<text class='marker' x='110' y='42'>")
    ++ xml_text marker ++ codes "</text>\n"

-- formula
-- the legend, so far from the top
unfoldable pub svg_legend : ℕ → List ℕ
svg_legend top = number_between (codes "<g transform='translate(110 ") top (codes ")'>\n") ++ LEGEND.now ++ codes "</g>\n"

-- ---- the picture

-- how far from the top the bands end
abbrev pub bands_end : Spacing → List TimeBin → ℕ → ℕ
bands_end spacing bins listed = band_top spacing bins listed 32

-- formula
-- how far from the top the lines of the codes end that satellites have nowhere
abbrev pub never_end : Spacing → List TimeBin → ℕ → ℕ
never_end spacing bins listed = bands_end spacing bins listed + 24 * lacked_before bins listed

-- formula
-- what stands below the heading: the name of the system, its satellites, and so far from the top what is of all
unfoldable pub svg_body : Spacing → List (List ℕ) → Scale → List TimeBin → List Bool → List Bool → List Strengths → ℕ → List ℕ
svg_body spacing listed s bins outages gaps strengths end =
    SYSTEM.now ++ bands_text gps_names spacing listed bins outages ++ never_texts gps_names bins (bands_end spacing bins (length listed) + 18) 0 listed ++ gaps_band end gaps ++ satellites_band (end + 26) (tracked_counts bins)
    ++ strip_text false (end + 72) strengths (bins_per_column s) (length bins)
    ++ ticks_text s (svg_tick_step s) (end + strip_height strengths + 72) ++ svg_legend (end + strip_height strengths + 104) ++ codes "</svg>\n"

-- formula
-- the picture of a file with records: its marker, the names of its codes, its scale, the numbers of its records,
-- slips, returns, rises and missing epochs, what its bins show, and its strengths
unfoldable pub svg_picture
    : List ℕ → List (List ℕ) → Scale → ℕ → ℕ → ℕ → ℕ → ℕ → List TimeBin → List Bool → List Bool → List Strengths → List ℕ
svg_picture marker listed s records slips returns rises missing bins outages gaps strengths =
    svg_start marker (never_end (spacing_of bins (length listed)) bins (length listed) + strip_height strengths + 230)
    ++ svg_span s ++ svg_numbers records (satellites_in bins) slips returns rises missing
    ++ svg_body (spacing_of bins (length listed)) listed s bins outages gaps strengths (never_end (spacing_of bins (length listed)) bins (length listed))

-- formula
-- the picture of a file without records
unfoldable pub svg_of_none : List ℕ → List ℕ
svg_of_none marker = svg_start marker 110 ++ codes "<text x='110' y='72'>no records</text>\n</svg>\n"
