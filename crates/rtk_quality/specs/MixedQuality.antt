-- The text of the numbers of a file of any systems, in its three forms (this project's rule): that of the file, and then a
-- part for each system of which the file has a code.
use Rattle.std.specs.Prelude.{◌≡◌, ℕ, Bool, false, List, [], ◌∷◌, ◌++◌, codes, Option, None, Some}
use Rattle.rtk_message.specs.declared.system.System.{System}
use Rattle.rtk_message.specs.declared.system.System.TheVariants.{Gps, Glonass, Galileo, Beidou, Qzss, Sbas, Navic}
use Rattle.rtk_obs.specs.declared.any_code.AnyCode.{AnyCode}
use Rattle.rtk_obs.specs.declared.time.Civil.{Civil}
use Rattle.rtk_obs.specs.Reading.{reading_of}
use Rattle.rtk_obs.specs.SatelliteIndex.{letter_of}
use Rattle.rtk_rinex.specs.MixedTable.{MixedTable, IsMixedTable, mixed_table_text}
use Rattle.rtk_rinex.specs.Record.{EpochTableView}
use Rattle.rtk_tracking.specs.Epochs.{newest_first, newest_moment}
use Rattle.rtk_tracking.specs.Interval.{interval_of_epochs}
use Rattle.rtk_quality.specs.Forms.{in_form, value_text, end_text}
use Rattle.rtk_quality.specs.Gaps.{longest_gaps, gaps_in}
use Rattle.rtk_quality.specs.Lists.{list_text}
use Rattle.rtk_quality.specs.Quality.{station_sums, satellites_in}
use Rattle.rtk_quality.specs.QualityText.{marker_text, span_text, satellites_text, station_text, listed_text, listed_counts, gaps_text, body_text, close_text}
use Rattle.rtk_quality.specs.Records.{unit_of, record_counts_of}
use Rattle.rtk_quality.specs.Shifts.{shifts_part}
use Rattle.rtk_tracking.specs.SystemCodes.{codes_of_system}
use Rattle.rtk_quality.specs.SystemParts.{epochs_of_system}
use Rattle.rtk_quality.specs.declared.form.Form.{Form}
use Rattle.rtk_quality.specs.declared.form.Form.TheVariants.{Table, Lines, Json}
use Rattle.rtk_quality.specs.declared.form.Decimals.TheVariants.{Whole}
use Rattle.rtk_quality.specs.declared.heading.ListedCounts.{ListedCounts}
use Rattle.rtk_quality.specs.declared.pass_sums.PassSums.{PassSums}
use Rattle.rtk_quality.specs.declared.record_counts.RecordCounts.{RecordCounts}

-- ---- the part of a system

-- table
-- the beginning of the part, with the letter of the system
unfoldable pub system_start : Form → System → List ℕ
system_start Table s = codes "\nsystem " ++ letter_of s ∷ []
system_start Lines s = codes "system " ++ letter_of s ∷ []
system_start Json s = codes ",\n{\"totals\":{\"system\":\"" ++ letter_of s ∷ codes "\""

-- formula
-- the totals of a system
unfoldable pub totals_text : Form → System → ℕ → RecordCounts → ListedCounts → PassSums → List ℕ
totals_text form s satellites r n sums =
    system_start form s ++ satellites_text form satellites r ++ station_text form sums ++ listed_text form n ++ end_text form

-- the end of the part
abbrev pub system_end : Form → List ℕ
system_end form = in_form form [] (codes "}")

-- formula
-- the part of a system with these codes and these epochs: its totals, what follows the heading of a file of GPS, but the
-- gaps, which are those of the file, and its Doppler shifts, if the file has them
unfoldable pub system_text : Bool → Form → System → List AnyCode → Option ℕ → List EpochTableView → List ℕ
system_text doppler form s listed interval es =
    totals_text form s (satellites_in 221 interval es) (record_counts_of (unit_of interval) es) (listed_counts 221 interval (unit_of interval) listed es) (station_sums 221 interval es)
    ++ body_text false form listed 221 interval (unit_of interval) es ++ shifts_part doppler form listed 221 interval es ++ system_end form

-- a system without codes has no part
abbrev pub text_if_listed : Bool → Form → System → List AnyCode → Option ℕ → List EpochTableView → List ℕ
text_if_listed doppler form s [] interval es = []
text_if_listed doppler form s (c ∷ cs) interval es = system_text doppler form s (c ∷ cs) interval es

-- the part of a system in a file of these codes and these epochs, with Doppler shifts (true) or without them
abbrev pub part_of_system : Bool → Form → List AnyCode → Option ℕ → List EpochTableView → System → List ℕ
part_of_system doppler form listed interval epochs s = text_if_listed doppler form s (codes_of_system s listed) interval (newest_first (epochs_of_system s epochs))

-- table
-- the parts of all systems, in the order of a file
unfoldable pub parts_of_systems : Bool → Form → List AnyCode → Option ℕ → List EpochTableView → List ℕ
parts_of_systems doppler form listed interval epochs =
    part_of_system doppler form listed interval epochs Gps ++ part_of_system doppler form listed interval epochs Glonass
    ++ part_of_system doppler form listed interval epochs Galileo ++ part_of_system doppler form listed interval epochs Beidou
    ++ part_of_system doppler form listed interval epochs Qzss ++ part_of_system doppler form listed interval epochs Sbas
    ++ part_of_system doppler form listed interval epochs Navic

unfoldable pub systems_text : Bool → Form → List AnyCode → Option ℕ → List EpochTableView → List ℕ
systems_text doppler form listed interval epochs = list_text form [] (codes ",\n\"systems\":[") (parts_of_systems doppler form listed interval epochs)

-- ---- the document

-- the lines of the whole file
unfoldable pub mixed_heading_text : Form → List ℕ → Civil → Civil → Option ℕ → RecordCounts → ℕ → List ℕ
mixed_heading_text form marker from until interval r gaps =
    marker_text form marker ++ span_text form from until interval r ++ value_text form (codes "\ngaps ") (codes ",\"gaps\":") Whole (Some gaps) ++ end_text form

-- formula
-- the numbers of a file with Doppler shifts (true) or without them, of this marker, these codes, and these moments of its
-- first and its last record
unfoldable pub mixed_quality_text : Bool → Form → List ℕ → List AnyCode → ℕ → ℕ → Option ℕ → List EpochTableView → List ℕ
mixed_quality_text doppler form marker listed first last interval epochs =
    mixed_heading_text form marker (reading_of first) (reading_of last) interval (record_counts_of (unit_of interval) (newest_first epochs)) (gaps_in (unit_of interval) (newest_first epochs))
    ++ gaps_text form (gaps_in (unit_of interval) (newest_first epochs)) (longest_gaps (unit_of interval) (newest_first epochs))
    ++ systems_text doppler form listed interval epochs ++ close_text form

-- a file without records has no other numbers
unfoldable pub mixed_text_of_none : Form → List ℕ → List ℕ
mixed_text_of_none form marker =
    marker_text form marker ++ value_text form (codes "\nrecords ") (codes ",\"records\":") Whole (Some 0) ++ end_text form
    ++ in_form form [] (codes ",\n\"gaps\":[],\n\"systems\":[]") ++ close_text form

-- the numbers of a table, whose last record is at this moment
abbrev pub mixed_text_until : Form → MixedTable → Option ℕ → List ℕ
mixed_text_until form t None = mixed_text_of_none form t.head.marker
mixed_text_until form t (Some last) = mixed_quality_text t.head.doppler form t.head.marker t.head.listed t.first last (interval_of_epochs t.epochs) t.epochs

-- formula
-- the numbers of a table of any systems
abbrev pub mixed_quality_of : Form → MixedTable → List ℕ
mixed_quality_of form t = mixed_text_until form t (newest_moment (newest_first t.epochs))

-- a text tells the numbers of each table whose text the file is; by one_mixed_table there is one
abbrev pub TellsMixedQuality : Form → List ℕ → List ℕ → Type 0
TellsMixedQuality form file text = (t : MixedTable) → IsMixedTable t → file ≡ mixed_table_text t → text ≡ mixed_quality_of form t
