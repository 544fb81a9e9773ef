-- The picture in characters of a file of any systems (this project's rule): the rows of each system stand below its name.
use Rattle.std.specs.Prelude.{◌≡◌, ℕ, ◌+◌, ◌-◌, ◌==◌, Bool, List, [], ◌∷◌, ◌++◌, length, codes, Option, if◌then◌else◌}
use Rattle.std.specs.List.{fold}
use Rattle.rtk_message.specs.declared.system.System.{System}
use Rattle.rtk_message.specs.declared.system.System.TheVariants.{Gps, Glonass, Galileo, Beidou, Qzss, Sbas, Navic}
use Rattle.rtk_obs.specs.declared.any_code.AnyCode.{AnyCode}
use Rattle.rtk_rinex.specs.MixedTable.{MixedTable, IsMixedTable, mixed_table_text}
use Rattle.rtk_rinex.specs.Record.{EpochTableView}
use Rattle.rtk_tracking.specs.Epochs.{capped, newest_first}
use Rattle.rtk_tracking.specs.Interval.{interval_of_epochs, missing_in}
use Rattle.rtk_tracking.specs.SystemCodes.{codes_of_system}
use Rattle.rtk_chart.specs.Chart.{slips_at, returns_at, rises_at}
use Rattle.rtk_chart.specs.Grid.{bins_of, outages_of, gaps_of, recorded_of}
use Rattle.rtk_chart.specs.Groups.{title_of, drawn_in_order, first_group, second_group, group_epochs}
use Rattle.rtk_chart.specs.Scale.{scale_of}
use Rattle.rtk_chart.specs.TextPicture.{satellite_rows, gap_row, never_in_line, all_never_lines, satellites_in, text_heading, number_lines, time_rows, text_of_none}
use Rattle.rtk_chart.specs.declared.choice.Choice.{Choice}
use Rattle.rtk_chart.specs.declared.drawn.DrawnNumbers.{DrawnNumbers}
use Rattle.rtk_chart.specs.declared.groups.Group.{Group}
use Rattle.rtk_chart.specs.declared.groups.Names.{Names}
use Rattle.rtk_chart.specs.declared.scale.Scale.{Scale}
use Rattle.rtk_chart.specs.declared.text_picture.TheConstants.{SIGNS}

-- ---- numbers

abbrev pub no_drawn_numbers : DrawnNumbers
no_drawn_numbers = record { satellites = 0; slips = 0; returns = 0; rises = 0 }

-- the numbers of some satellites, which have these epochs, newest first, at a scale
abbrev pub drawn_numbers_at : Scale → List EpochTableView → DrawnNumbers
drawn_numbers_at s es = record { satellites = satellites_in (bins_of s es); slips = slips_at s es; returns = returns_at s es; rises = rises_at s es }

-- formula
-- the numbers of these satellites and of others
abbrev pub both_numbers : DrawnNumbers → DrawnNumbers → DrawnNumbers
both_numbers m n = record {
  satellites = capped (m.satellites + n.satellites);
  slips = capped (m.slips + n.slips);
  returns = capped (m.returns + n.returns);
  rises = capped (m.rises + n.rises);
}

-- ---- what is drawn

-- what is drawn of some satellites: their rows, the lines of the codes that they have nowhere, and their numbers
pub record DrawnView : Type 0 where
  pub rows : List ℕ
  pub never : List ℕ
  pub numbers : DrawnNumbers

abbrev pub nothing_drawn : DrawnView
nothing_drawn = record { rows = []; never = []; numbers = no_drawn_numbers }

-- formula
-- with some satellites more, which have these names, codes and epochs, in a picture of this width
abbrev pub with_satellites : Scale → ℕ → List AnyCode → Names → List EpochTableView → DrawnView → DrawnView
with_satellites s width listed names es d = record {
  rows = d.rows ++ satellite_rows names (bins_of s es) (outages_of s es);
  never = d.never ++ all_never_lines title_of names (bins_of s es) (never_in_line (width - 1)) 0 listed;
  numbers = both_numbers d.numbers (drawn_numbers_at s es);
}

-- with the chosen satellites of a group, which has these codes, of a file with these epochs
abbrev pub with_group : Scale → ℕ → Choice → List EpochTableView → List AnyCode → Group → DrawnView → DrawnView
with_group s width choice es listed g d = with_satellites s width listed g.names (group_epochs choice g es) d

-- a group without satellites adds nothing
abbrev pub with_group_if_any : Scale → ℕ → Choice → List EpochTableView → List AnyCode → Group → DrawnView → DrawnView
with_group_if_any s width choice es listed g d = if g.count == 0 then d else with_group s width choice es listed g d

-- ---- a system

-- table
-- the name of a system
abbrev pub system_title : System → List ℕ
system_title Gps = codes "GPS\n"
system_title Glonass = codes "GLONASS\n"
system_title Galileo = codes "Galileo\n"
system_title Beidou = codes "BeiDou\n"
system_title Qzss = codes "QZSS\n"
system_title Sbas = codes "SBAS\n"
system_title Navic = codes "NavIC\n"

-- formula
-- the rows of a system below its name, if it has a row
abbrev pub titled_rows : System → List ℕ → List ℕ
titled_rows system rows = if length rows == 0 then [] else system_title system ++ rows

-- what is drawn of a system with these codes
abbrev pub drawn_of_system : Scale → ℕ → Choice → List EpochTableView → System → List AnyCode → DrawnView
drawn_of_system s width choice es system listed =
    with_group_if_any s width choice es listed (second_group system) (with_group s width choice es listed (first_group system) nothing_drawn)

-- what is drawn, and then a system
abbrev pub then_system : System → DrawnView → DrawnView → DrawnView
then_system system more d = record {
  rows = d.rows ++ titled_rows system more.rows;
  never = d.never ++ more.never;
  numbers = both_numbers d.numbers more.numbers;
}

-- a system of which the file lists these codes; without a code it has no satellite
abbrev pub with_listed : Scale → ℕ → Choice → List EpochTableView → System → List AnyCode → DrawnView → DrawnView
with_listed s width choice es system [] d = d
with_listed s width choice es system (c ∷ cs) d = then_system system (drawn_of_system s width choice es system (c ∷ cs)) d

-- what is drawn, and then a system of a file of these codes
abbrev pub with_drawn_system : Scale → ℕ → Choice → List EpochTableView → List AnyCode → DrawnView → System → DrawnView
with_drawn_system s width choice es listed d system = with_listed s width choice es system (codes_of_system system listed) d

-- formula
-- all systems of a file, in its order
unfoldable pub drawn_systems : Scale → ℕ → Choice → List EpochTableView → List AnyCode → DrawnView
drawn_systems s width choice es listed = fold (with_drawn_system s width choice es listed) nothing_drawn drawn_in_order

-- ---- the picture

-- formula
-- the picture of a file with records: its marker, its scale, its width, the number of its records, what is drawn of its
-- satellites, how many epochs are missing, and in which bins there are records and missing epochs
unfoldable pub systems_picture : List ℕ → Scale → ℕ → ℕ → DrawnView → ℕ → List Bool → List Bool → List ℕ
systems_picture marker s width records d missing recorded gaps =
    text_heading marker s ++ number_lines s records d.numbers.satellites d.numbers.slips d.numbers.returns d.numbers.rises missing
    ++ d.rows ++ gap_row recorded gaps ++ time_rows s width ++ d.never ++ SIGNS.now

-- the picture of these epochs, newest first, of a file of these codes, at a scale
abbrev pub systems_at : List ℕ → List AnyCode → ℕ → Choice → Scale → List EpochTableView → List ℕ
systems_at marker listed width choice s es =
    systems_picture marker s width (capped (length es)) (drawn_systems s width choice es listed) (capped (missing_in s.unit es)) (recorded_of s es) (gaps_of s es)

-- the picture of a file of this marker, these codes and this first time, with this interval, so many characters wide
abbrev pub systems_of_epochs : List ℕ → List AnyCode → ℕ → Option ℕ → ℕ → Choice → List EpochTableView → List ℕ
systems_of_epochs marker listed first interval width choice [] = text_of_none marker
systems_of_epochs marker listed first interval width choice (e ∷ before) =
    systems_at marker listed width choice (scale_of first e.time interval (width - 5)) (e ∷ before)

-- formula
-- a text is the picture in characters of a choice of each table of any systems whose text the file is
abbrev pub ShowsSystems : Choice → List ℕ → ℕ → List ℕ → Type 0
ShowsSystems choice file width text =
    (t : MixedTable) → IsMixedTable t → file ≡ mixed_table_text t
    → text ≡ systems_of_epochs t.head.marker t.head.listed t.first (interval_of_epochs t.epochs) width choice (newest_first t.epochs)
