-- A picture in characters (this project's rule).
use Rattle.std.specs.Prelude.{ℕ, ◌+◌, ◌-◌, ◌*◌, ◌/◌, ◌%◌, ◌==◌, nat_le, Bool, true, false, ◌&&◌, List, [], ◌∷◌, ◌++◌, length, get_or, map, flat_map, count_by, codes, decimal, Option, None, Some, is_some, min, if◌then◌else◌}
use Rattle.std.specs.List.{list_any, range_with_len}
use Rattle.rtk_obs.specs.declared.code.Code.{Code}
use Rattle.rtk_obs.specs.Code.{name_of}
use Rattle.rtk_obs.specs.CivilText.{civil_text}
use Rattle.rtk_obs.specs.Reading.{reading_of}
use Rattle.rtk_chart.specs.Grid.{no_bin, tracking_at, is_out}
use Rattle.rtk_chart.specs.Signs.{is_tracked, has_slip, has_return, has_rise, has_half, least_level, is_drawn, has_code, is_never, is_missing}
use Rattle.rtk_chart.specs.Heading.{interval_lines}
use Rattle.rtk_chart.specs.Ticks.{tick_step, tick_at, tick_label, label_length}
use Rattle.rtk_chart.specs.declared.scale.Scale.{Scale}
use Rattle.rtk_chart.specs.declared.groups.Names.{Names}
use Rattle.rtk_chart.specs.declared.text_picture.TheConstants.{SIGNS}
use Rattle.rtk_chart.specs.declared.tracking.Tracking.{Tracking}
use Rattle.rtk_chart.specs.declared.time_bin.TimeBin.{TimeBin}

-- ---- a satellite in a bin

-- table
-- the least strength digit, a point for a phase without one, a blank
abbrev pub strength_mark : Option ℕ → Bool → ℕ
strength_mark None tracked = if tracked then 46 else 32
strength_mark (Some level) tracked = 48 + min level 9

-- table
-- a hyphen where a code is missing that the satellite has elsewhere, else the strength
abbrev pub phase_mark : (ℕ → Bool) → Tracking → ℕ
phase_mark has tracking = if is_missing has tracking then 45 else strength_mark (least_level tracking) (is_tracked tracking)

-- table
-- B for a slip and a half cycle, S for a slip, o for an outage, H for a half cycle, R for a rise, r for a return, else
-- another mark
abbrev pub lock_mark : Bool → Bool → Bool → Bool → Bool → ℕ → ℕ
lock_mark true true out rise returned other = 66
lock_mark true false out rise returned other = 83
lock_mark false half true rise returned other = 111
lock_mark false true false rise returned other = 72
lock_mark false false false true returned other = 82
lock_mark false false false false true other = 114
lock_mark false false false false false other = other

-- formula
-- the first of these that a tracking and an outage call for, if a test says which codes the satellite has
abbrev pub character_of : (ℕ → Bool) → Bool → Tracking → ℕ
character_of has out tracking =
    lock_mark (has_slip tracking) (has_half tracking) out (has_rise tracking) (has_return tracking) (phase_mark has tracking)

-- ---- rows

-- constant
-- the satellites of GPS, whose places are their numbers
abbrev pub gps_names : Names
gps_names = record { letter = 71; before = 0 }

-- formula
-- the letter of the system and two digits, as in G05
abbrev pub satellite_label : ℕ → ℕ → List ℕ
satellite_label letter number = letter ∷ (48 + number / 10) ∷ (48 + number % 10) ∷ []

-- formula
-- as in G05|
abbrev pub row_head : ℕ → ℕ → List ℕ
row_head letter number = letter ∷ (48 + number / 10) ∷ (48 + number % 10) ∷ 124 ∷ []

-- formula
-- what a bin shows of a satellite
abbrev pub character_at : List TimeBin → List Bool → ℕ → ℕ → ℕ
character_at bins outages place c =
    character_of (has_code bins place) (is_out outages place c) (tracking_at place (get_or bins c no_bin))

-- formula
unfoldable pub satellite_row : Names → List TimeBin → List Bool → ℕ → List ℕ
satellite_row names bins outages place =
    row_head names.letter (names.before + place + 1) ++ map (character_at bins outages place) (range_with_len 0 (length bins)) ++ codes "|\n"

abbrev pub row_if_drawn : Names → List TimeBin → List Bool → ℕ → List ℕ
row_if_drawn names bins outages place = if is_drawn bins place then satellite_row names bins outages place else []

-- formula
-- the rows of the satellites that have one in the file
unfoldable pub satellite_rows : Names → List TimeBin → List Bool → List ℕ
satellite_rows names bins outages = flat_map (row_if_drawn names bins outages) (range_with_len 0 32)

-- table
-- an x where epochs are missing and none is there, and a / where some are missing
abbrev pub gap_mark : Bool → Bool → ℕ
gap_mark recorded missing = if missing then (if recorded then 47 else 120) else 32

-- the mark of a bin
abbrev pub gap_mark_at : List Bool → List Bool → ℕ → ℕ
gap_mark_at recorded gaps c = gap_mark (get_or recorded c false) (get_or gaps c false)

-- formula
unfoldable pub gap_row : List Bool → List Bool → List ℕ
gap_row recorded gaps = codes "gap|" ++ map (gap_mark_at recorded gaps) (range_with_len 0 (length gaps)) ++ codes "|\n"

-- ---- time

-- constant
-- labels of ticks have 10 characters, so ticks are 12 bins apart or more
abbrev pub text_tick_step : Scale → ℕ
text_tick_step s = tick_step (12 * s.bin_ms)

-- table
abbrev pub axis_mark : Option ℕ → ℕ
axis_mark None = 45
axis_mark (Some t) = 43

-- formula
unfoldable pub axis_row : Scale → ℕ → List ℕ
axis_row s step = codes "    " ++ map (λ c. axis_mark (tick_at s step c)) (range_with_len 0 s.bins) ++ 10 ∷ []

-- formula
-- the tick in a bin has a label, if it fits into a picture of this width, whose bins begin after four
-- characters
abbrev pub has_label : Scale → ℕ → ℕ → ℕ → Bool
has_label s width step c = nat_le (c + label_length step + 4) width && is_some (tick_at s step c)

-- formula
-- a label in one of the bins before, as many as it has characters behind its first, ends in this bin or
-- after it
abbrev pub is_covered : Scale → ℕ → ℕ → ℕ → Bool
is_covered s width step c =
    list_any (has_label s width step) (range_with_len (c - (label_length step - 1)) (min c (label_length step - 1)))

abbrev pub label_text : ℕ → Option ℕ → List ℕ
label_text step None = []
label_text step (Some t) = tick_label step t

-- formula
-- what a bin gives to the row of labels
abbrev pub label_part : Scale → ℕ → ℕ → ℕ → List ℕ
label_part s width step c =
    if has_label s width step c then label_text step (tick_at s step c)
    else (if is_covered s width step c then [] else codes " ")

-- formula
unfoldable pub label_row : Scale → ℕ → ℕ → List ℕ
label_row s width step = codes "    " ++ flat_map (label_part s width step) (range_with_len 0 s.bins) ++ 10 ∷ []

-- ---- codes that satellites have nowhere

-- formula
-- how many satellites stand in a line behind a code: each takes four characters, and what is before them nine
abbrev pub never_in_line : ℕ → ℕ
never_in_line width = (width - 9) / 4

-- how many satellites before a place have the code at a place nowhere
unfoldable pub never_before : List TimeBin → ℕ → ℕ → ℕ
never_before bins at place = count_by (is_never bins at) (range_with_len 0 place)

-- formula
-- the end of a line, unless none has begun
abbrev pub line_end : ℕ → List ℕ
line_end n = if n == 0 then [] else 10 ∷ []

-- formula
-- what stands before a satellite, with the name of the code, as in never 2W: if it is the first of a line, after so many
-- satellites
abbrev pub never_start : List ℕ → ℕ → ℕ → List ℕ
never_start title each n = if n % each == 0 then line_end n ++ codes "never " ++ title ++ codes ":" else []

-- formula
abbrev pub never_part : Names → List TimeBin → List ℕ → ℕ → ℕ → ℕ → List ℕ
never_part names bins title at each place =
    if is_never bins at place then never_start title each (never_before bins at place) ++ 32 ∷ satellite_label names.letter (names.before + place + 1) else []

-- formula
-- the satellites that have the code at a place nowhere, so many in a line
unfoldable pub never_lines : Names → List TimeBin → ℕ → ℕ → List ℕ → List ℕ
never_lines names bins each at title =
    flat_map (never_part names bins title at each) (range_with_len 0 32) ++ line_end (never_before bins at 32)

-- the codes from a place on, each with its name
abbrev pub all_never_lines : {C : Type 0} → (C → List ℕ) → Names → List TimeBin → ℕ → ℕ → List C → List ℕ
all_never_lines title names bins each at [] = []
all_never_lines title names bins each at (c ∷ cs) = never_lines names bins each at (title c) ++ all_never_lines title names bins each (at + 1) cs

-- ---- the picture

-- formula
-- words and a count
abbrev pub named_count_line : List ℕ → ℕ → List ℕ
named_count_line words n = words ++ decimal n ++ 10 ∷ []

-- formula
-- words and a moment, as in from 2024-05-17 12:00:00.000 GPS time
abbrev pub moment_line : List ℕ → ℕ → List ℕ
moment_line words t = words ++ civil_text (reading_of t) ++ codes " GPS time\n"

-- how many satellites before a place are drawn
unfoldable pub drawn_before : List TimeBin → ℕ → ℕ
drawn_before bins place = count_by (is_drawn bins) (range_with_len 0 place)

-- formula
-- the satellites of a file
abbrev pub satellites_in : List TimeBin → ℕ
satellites_in bins = drawn_before bins 32

-- formula
unfoldable pub text_heading : List ℕ → Scale → List ℕ
text_heading marker s =
    codes "marker " ++ marker ++ 10 ∷ [] ++ moment_line (codes "from ") s.first ++ moment_line (codes "until ") s.last

-- formula
-- the numbers in the heading of a picture
unfoldable pub number_lines : Scale → ℕ → ℕ → ℕ → ℕ → ℕ → ℕ → List ℕ
number_lines s records satellites slips returns rises missing =
    interval_lines s.interval s.bin_ms
    ++ named_count_line (codes "records ") records ++ named_count_line (codes "satellites ") satellites
    ++ named_count_line (codes "slips ") slips ++ named_count_line (codes "returns ") returns
    ++ named_count_line (codes "rises ") rises ++ named_count_line (codes "missing ") missing

unfoldable pub time_rows : Scale → ℕ → List ℕ
time_rows s width = axis_row s (text_tick_step s) ++ label_row s width (text_tick_step s)

-- formula
-- what stands below the heading of a picture of this width: what the bins show, and what the signs mean
unfoldable pub text_body : List Code → Scale → ℕ → List TimeBin → List Bool → List Bool → List Bool → List ℕ
text_body listed s width bins outages recorded gaps =
    codes "GPS\n" ++ satellite_rows gps_names bins outages ++ gap_row recorded gaps ++ time_rows s width
    ++ all_never_lines name_of gps_names bins (never_in_line width) 0 listed ++ SIGNS.now

-- the picture of a file with records: its marker, its codes, its scale, its width, the numbers of its
-- records, slips, returns, rises and missing epochs, and what its bins show
unfoldable pub text_picture
    : List ℕ → List Code → Scale → ℕ → ℕ → ℕ → ℕ → ℕ → ℕ → List TimeBin → List Bool → List Bool → List Bool → List ℕ
text_picture marker listed s width records slips returns rises missing bins outages recorded gaps =
    text_heading marker s ++ number_lines s records (satellites_in bins) slips returns rises missing
    ++ text_body listed s width bins outages recorded gaps

-- formula
-- the picture of a file without records
unfoldable pub text_of_none : List ℕ → List ℕ
text_of_none marker = codes "marker " ++ marker ++ codes "\nno records\n"
