-- The text of the numbers of a file, in its three forms (this project's rule).
use Rattle.std.specs.Prelude.{◌≡◌, ◌==◌, ℕ, ◌+◌, Bool, true, List, [], ◌∷◌, ◌++◌, reverse, map, flat_map, codes, Option, Some, if◌then◌else◌}
use Rattle.std.specs.List.{range_with_len}
use Rattle.rtk_quality.specs.declared.strengths.CodeBand.TheVariants.{B1, B2, B5, B6, B7, B8}
use Rattle.rtk_message.specs.declared.system.System.{System}
use Rattle.rtk_message.specs.declared.system.System.TheVariants.{Gps, Glonass, Galileo, Beidou, Qzss, Sbas, Navic}
use Rattle.rtk_obs.specs.declared.any_code.AnyCode.{AnyCode}
use Rattle.rtk_obs.specs.AnyCode.{code_of_gps}
use Rattle.rtk_obs.specs.declared.time.Civil.{Civil}
use Rattle.rtk_obs.specs.Reading.{reading_of}
use Rattle.rtk_rinex.specs.Record.{EpochTableView}
use Rattle.rtk_rinex.specs.Table.{WellFormedTable, IsWellFormedTable, table_text}
use Rattle.rtk_tracking.specs.Epochs.{newest_first}
use Rattle.rtk_tracking.specs.Interval.{interval_of_file}
use Rattle.rtk_tracking.specs.Passes.{Sighting, sightings_of}
use Rattle.rtk_quality.specs.Counts.{mean_tenths}
use Rattle.rtk_quality.specs.SatellitePasses.{sums_in, passes_of}
use Rattle.rtk_quality.specs.Records.{unit_of, record_counts_of}
use Rattle.rtk_quality.specs.Hours.{hours_of}
use Rattle.rtk_quality.specs.Strengths.{system_of_codes}
use Rattle.rtk_quality.specs.Gaps.{longest_gaps, gaps_in}
use Rattle.rtk_quality.specs.Largest.{count_of}
use Rattle.rtk_quality.specs.Moments.{largest_moments, moments_in}
use Rattle.rtk_quality.specs.Outages.{longest_outages, all_outages}
use Rattle.rtk_quality.specs.Runs.{longest_half_runs, half_runs_in}
use Rattle.rtk_quality.specs.Bursts.{largest_bursts, all_bursts_in}
use Rattle.rtk_quality.specs.Missing.{longest_missing, missing_codes_in}
use Rattle.rtk_quality.specs.Lists.{list_text, largest_text}
use Rattle.rtk_quality.specs.LineText.{never_line}
use Rattle.rtk_quality.specs.Never.{never_rows}
use Rattle.rtk_quality.specs.Entries.{in_table, code_entry, satellite_entry, tracked_entry, pass_entry, hour_entry, gap_entry, outage_entry, moment_entry, burst_entry, run_entry, missing_entry, fall_part}
use Rattle.rtk_quality.specs.Quality.{numbers_of, code_of_station, station_sums, is_in_file, satellites_in}
use Rattle.rtk_quality.specs.Forms.{in_form, value_text, moment_text, end_text, json_text}
use Rattle.rtk_quality.specs.declared.form.Form.{Form}
use Rattle.rtk_quality.specs.declared.form.Form.TheVariants.{Table, Lines, Json}
use Rattle.rtk_quality.specs.declared.form.Decimals.TheVariants.{Whole, Tenths, Thousandths}
use Rattle.rtk_quality.specs.declared.sections.Section.{Section}
use Rattle.rtk_quality.specs.declared.sections.Section.TheVariants.{Codes, Tracked, Never, Passes}
use Rattle.rtk_quality.specs.declared.code_numbers.CodeNumbers.{CodeNumbers}
use Rattle.rtk_quality.specs.declared.record_counts.RecordCounts.{RecordCounts}
use Rattle.rtk_quality.specs.declared.pass_sums.PassSums.{PassSums}
use Rattle.rtk_quality.specs.declared.hours.HourCounts.{HourCounts}
use Rattle.rtk_quality.specs.declared.gaps.Gap.{Gap}
use Rattle.rtk_quality.specs.declared.heading.ListedCounts.{ListedCounts}
use Rattle.rtk_quality.specs.declared.moments.Moment.{Moment}
use Rattle.rtk_quality.specs.declared.outages.Outage.{Outage}
use Rattle.rtk_quality.specs.declared.runs.HalfRun.{HalfRun}
use Rattle.rtk_quality.specs.declared.missing.MissingCode.{MissingCode}
use Rattle.rtk_quality.specs.declared.bursts.Burst.{Burst}

-- ---- the codes and satellites

-- entries of codes by their places
abbrev pub each_code : (ℕ → AnyCode → List ℕ) → ℕ → List AnyCode → List ℕ
each_code line at [] = []
each_code line at (c ∷ cs) = line at c ++ each_code line (at + 1) cs

-- what a section has of a code of a satellite: its numbers if the satellite has it somewhere; that it is
-- nowhere
abbrev pub code_in : Form → Section → ℕ → AnyCode → CodeNumbers → List ℕ
code_in form Codes satellite code n = if n.counts.seen then satellite_entry form satellite code n else []
code_in form Never satellite code n = if n.counts.phases == 0 then never_line form satellite code else []
code_in form Tracked satellite code n = []
code_in form Passes satellite code n = []

-- formula
-- what a section has of a satellite: its codes; the sums of all its codes, if it has any; the codes of which it
-- has no phase, if it has any; its passes, from the first to the last
abbrev pub part_of : Form → Section → List AnyCode → Option ℕ → List Sighting → ℕ → List ℕ
part_of form Codes listed interval before satellite = each_code (λ place code. code_in form Codes satellite code (numbers_of interval before place)) 0 listed
part_of form Tracked listed interval before satellite =
    if is_in_file interval before then tracked_entry form satellite (sums_in interval before) else []
part_of form Never listed interval before satellite =
    if is_in_file interval before
    then each_code (λ place code. code_in form Never satellite code (numbers_of interval before place)) 0 listed
    else []
part_of form Passes listed interval before satellite = flat_map (pass_entry form satellite) (reverse (passes_of interval before))

-- what a section has of each satellite
unfoldable pub parts_of : Form → Section → List AnyCode → ℕ → Option ℕ → List EpochTableView → List ℕ
parts_of form section listed most interval es =
    flat_map (λ satellite. part_of form section listed interval (sightings_of satellite es) satellite) (range_with_len 1 most)

-- formula
-- the entries of a section: those of each satellite. In a table the codes of which satellites have no phase have
-- rows by code.
abbrev pub section_entries : Form → Section → List AnyCode → ℕ → Option ℕ → List EpochTableView → List ℕ
section_entries form Codes listed most interval es = parts_of form Codes listed most interval es
section_entries form Tracked listed most interval es = parts_of form Tracked listed most interval es
section_entries form Never listed most interval es = in_table form (never_rows most interval es listed) (parts_of form Never listed most interval es)
section_entries form Passes listed most interval es = parts_of form Passes listed most interval es

-- table
-- the headings of the sections in a table; the codes of satellites follow those of the station
abbrev pub section_heading : Section → List ℕ
section_heading Codes = []
section_heading Tracked = codes "\nsat    phases  slips  moments  outages        time\n"
section_heading Never = codes "\nnever a phase\n"
section_heading Passes = codes "\nsat from                until               phases slips moments  out      time\n"

-- table
-- the keys of the sections in JSON
abbrev pub section_key : Section → List ℕ
section_key Codes = codes ",\n\"satellites\":["
section_key Tracked = codes ",\n\"tracked\":["
section_key Never = codes ",\n\"never\":["
section_key Passes = codes ",\n\"passes\":["

-- a section of the text
unfoldable pub section_text : Form → Section → List AnyCode → ℕ → Option ℕ → List EpochTableView → List ℕ
section_text form section listed most interval es =
    list_text form (section_heading section) (section_key section) (section_entries form section listed most interval es)

-- table
-- the heading of the columns of codes
abbrev pub codes_heading : List ℕ
codes_heading = codes "\n                            ranges                             strength in dB-Hz\nsignal phases     of      %   only slips returns rises half     min  mean    max\n"

-- the codes of the station
unfoldable pub codes_text : Form → List AnyCode → ℕ → Option ℕ → List EpochTableView → List ℕ
codes_text form listed most interval es =
    list_text form codes_heading (codes ",\n\"codes\":[")
    (each_code (λ place code. code_entry form code (satellites_in most interval es) (code_of_station most interval es place)) 0 listed)

-- ---- the hours, gaps and falls, and what else happened

-- table
-- the heading of the columns of hours, with the bands of the system
abbrev pub hours_heading : System → List ℕ
hours_heading Gps = codes "\nhour             records    of satellites  slips returns  band 1  band 2  band 5\n"
hours_heading Glonass = codes "\nhour             records    of satellites  slips returns  band 1  band 2  band 5\n"
hours_heading Galileo = codes "\nhour             records    of satellites  slips returns  band 1  band 5  band 7\n"
hours_heading Beidou = codes "\nhour             records    of satellites  slips returns  band 2  band 6  band 7\n"
hours_heading Qzss = codes "\nhour             records    of satellites  slips returns  band 1  band 2  band 5\n"
hours_heading Sbas = codes "\nhour             records    of satellites  slips returns  band 1  band 2  band 5\n"
hours_heading Navic = codes "\nhour             records    of satellites  slips returns  band 1  band 2  band 5\n"

-- table
abbrev pub gaps_heading : List ℕ
gaps_heading = codes "\ngap from                until                     missing\n"

-- table
abbrev pub outages_heading : List ℕ
outages_heading = codes "\noutage from             until                      time\n"

-- table
abbrev pub moments_heading : List ℕ
moments_heading = codes "\nslips together      satellites    of\n"

-- table
abbrev pub bursts_heading : List ℕ
bursts_heading = codes "\nburst hour           moments\n"

-- table
abbrev pub runs_heading : List ℕ
runs_heading = codes "\nhalf from               until                  epochs\n"

-- table
abbrev pub missing_heading : List ℕ
missing_heading = codes "\nmissing from               until                  epochs\n"

-- table
abbrev pub falls_heading : List ℕ
falls_heading = codes "\nband falls from       until                by\n"

unfoldable pub hours_text : Form → List AnyCode → List HourCounts → List ℕ
hours_text form listed hours = list_text form (hours_heading (system_of_codes listed)) (codes ",\n\"hours\":[") (flat_map (hour_entry form listed) hours)

unfoldable pub gaps_text : Form → ℕ → List Gap → List ℕ
gaps_text form n gaps = largest_text gap_entry form gaps_heading (codes ",\n\"gaps\":[") n gaps

unfoldable pub outages_text : Form → ℕ → List Outage → List ℕ
outages_text form n outages = largest_text outage_entry form outages_heading (codes ",\n\"outages\":[") n outages

unfoldable pub moments_text : Form → ℕ → List Moment → List ℕ
moments_text form n moments = largest_text moment_entry form moments_heading (codes ",\n\"slips_together\":[") n moments

unfoldable pub bursts_text : Form → ℕ → List Burst → List ℕ
bursts_text form n bursts = largest_text burst_entry form bursts_heading (codes ",\n\"bursts\":[") n bursts

unfoldable pub runs_text : Form → ℕ → List HalfRun → List ℕ
runs_text form n runs = largest_text run_entry form runs_heading (codes ",\n\"half_runs\":[") n runs

unfoldable pub missing_text : Form → ℕ → List MissingCode → List ℕ
missing_text form n missing = largest_text missing_entry form missing_heading (codes ",\n\"missing_codes\":[") n missing

-- the falls of all bands
unfoldable pub falls_of : Form → List HourCounts → List ℕ
falls_of form hours =
    fall_part form hours B1 ++ fall_part form hours B2 ++ fall_part form hours B5 ++ fall_part form hours B6 ++ fall_part form hours B7 ++ fall_part form hours B8

unfoldable pub falls_text : Form → List HourCounts → List ℕ
falls_text form hours = list_text form falls_heading (codes ",\n\"falls\":[") (falls_of form hours)

-- ---- the document

-- the marker
unfoldable pub marker_text : Form → List ℕ → List ℕ
marker_text form marker =
    in_form form (codes "marker " ++ marker) (codes "{\"file\":{\"marker\":\"" ++ json_text marker ++ codes "\"")

-- formula
-- the span, the interval in seconds, and the epochs that are there and missing
unfoldable pub span_text : Form → Civil → Civil → Option ℕ → RecordCounts → List ℕ
span_text form from until interval r =
    moment_text form (codes "\nfrom ") (codes ",\"from\":") from
    ++ moment_text form (codes "\nuntil ") (codes ",\"until\":") until
    ++ value_text form (codes "\ninterval ") (codes ",\"interval_ms\":") Thousandths interval
    ++ value_text form (codes "\nrecords ") (codes ",\"records\":") Whole (Some r.records)
    ++ value_text form (codes "\nmissing ") (codes ",\"missing\":") Whole (Some r.missing)

-- formula
-- the satellites of the file, and how many an epoch has: at least, in the mean, and at most
unfoldable pub satellites_text : Form → ℕ → RecordCounts → List ℕ
satellites_text form satellites r =
    value_text form (codes "\nsatellites ") (codes ",\"satellites\":") Whole (Some satellites)
    ++ value_text form (codes "\nleast-satellites ") (codes ",\"least_satellites\":") Whole r.least_rows
    ++ value_text form (codes "\nmean-satellites ") (codes ",\"mean_satellites_tenths\":") Tenths (mean_tenths r.rows r.records)
    ++ value_text form (codes "\ngreatest-satellites ") (codes ",\"greatest_satellites\":") Whole r.most_rows

-- formula
-- the slips of all satellites, their moments, and their outages
unfoldable pub station_text : Form → PassSums → List ℕ
station_text form s =
    value_text form (codes "\nslips ") (codes ",\"slips\":") Whole (Some s.slips)
    ++ value_text form (codes "\nmoments ") (codes ",\"moments\":") Whole (Some s.moments)
    ++ value_text form (codes "\noutages ") (codes ",\"outages\":") Whole (Some s.outages)
    ++ value_text form (codes "\noutage-time ") (codes ",\"outage_time_ms\":") Thousandths (Some s.outage_ms)

-- formula
-- how many there are of what has a list of the ten largest
abbrev pub listed_counts : ℕ → Option ℕ → ℕ → List AnyCode → List EpochTableView → ListedCounts
listed_counts most interval unit listed es =
    record {
      gaps = gaps_in unit es;
      moments = moments_in interval es;
      bursts = all_bursts_in most interval es;
      runs = half_runs_in most interval es;
      missing = missing_codes_in most interval listed es;
    }

-- formula
-- the counts that follow the outages
unfoldable pub listed_text : Form → ListedCounts → List ℕ
listed_text form n =
    value_text form (codes "\nslips-together ") (codes ",\"slips_together\":") Whole (Some n.moments)
    ++ value_text form (codes "\nbursts ") (codes ",\"bursts\":") Whole (Some n.bursts)
    ++ value_text form (codes "\nhalf-runs ") (codes ",\"half_runs\":") Whole (Some n.runs)
    ++ value_text form (codes "\nmissing-codes ") (codes ",\"missing_codes\":") Whole (Some n.missing)

-- the lines of the whole file
unfoldable pub heading_text : Form → List ℕ → Civil → Civil → Option ℕ → ℕ → RecordCounts → ListedCounts → PassSums → List ℕ
heading_text form marker from until interval satellites r n s =
    marker_text form marker ++ span_text form from until interval r ++ value_text form (codes "\ngaps ") (codes ",\"gaps\":") Whole (Some n.gaps)
    ++ satellites_text form satellites r ++ station_text form s
    ++ listed_text form n ++ end_text form

-- the end of the document
abbrev pub close_text : Form → List ℕ
close_text form = in_form form [] (codes "}\n")

-- the gaps, which stand once in a file: in the part of a whole file, and not in the part of one of its systems
abbrev pub gaps_part : Bool → Form → ℕ → List Gap → List ℕ
gaps_part whole form n gaps = if whole then gaps_text form n gaps else []

-- formula
-- the hours, and the ten longest gaps; the largest falls; the ten longest outages; the ten epochs at which most
-- satellites slip; the ten hours in which a satellite slips at most epochs; the ten longest runs of half cycles; the ten
-- longest runs of epochs at which a code is missing
unfoldable pub station_part : Bool → Form → List AnyCode → ℕ → Option ℕ → ℕ → List EpochTableView → List ℕ
station_part whole form listed most interval unit es =
    hours_text form listed (reverse (hours_of interval unit listed es)) ++ gaps_part whole form (gaps_in unit es) (longest_gaps unit es)
    ++ falls_text form (reverse (hours_of interval unit listed es)) ++ outages_text form (count_of (all_outages interval es)) (longest_outages interval es)
    ++ moments_text form (moments_in interval es) (largest_moments interval es) ++ bursts_text form (all_bursts_in most interval es) (largest_bursts most interval es)
    ++ runs_text form (half_runs_in most interval es) (longest_half_runs most interval es)
    ++ missing_text form (missing_codes_in most interval listed es) (longest_missing most interval listed es)

-- formula
-- the codes of the station and of satellites, the sums of satellites, and their passes
unfoldable pub signals_part : Form → List AnyCode → ℕ → Option ℕ → List EpochTableView → List ℕ
signals_part form listed most interval es =
    codes_text form listed most interval es ++ section_text form Codes listed most interval es ++ section_text form Tracked listed most interval es
    ++ section_text form Never listed most interval es ++ section_text form Passes listed most interval es

-- formula
-- what follows the heading: a table begins with the hours, gaps and falls, since they say when something
-- happened; lines and JSON end with them
unfoldable pub body_text : Bool → Form → List AnyCode → ℕ → Option ℕ → ℕ → List EpochTableView → List ℕ
body_text whole Table listed most interval unit es = station_part whole Table listed most interval unit es ++ signals_part Table listed most interval es
body_text whole Lines listed most interval unit es = signals_part Lines listed most interval es ++ station_part whole Lines listed most interval unit es
body_text whole Json listed most interval unit es = signals_part Json listed most interval es ++ station_part whole Json listed most interval unit es

-- formula
-- the numbers of a file of this marker, these codes, and these moments of its first and its last record
unfoldable pub quality_text : Form → List ℕ → List AnyCode → ℕ → ℕ → ℕ → Option ℕ → List EpochTableView → List ℕ
quality_text form marker listed first last most interval es =
    heading_text form marker (reading_of first) (reading_of last) interval (satellites_in most interval es)
    (record_counts_of (unit_of interval) es) (listed_counts most interval (unit_of interval) listed es) (station_sums most interval es)
    ++ body_text true form listed most interval (unit_of interval) es ++ close_text form

-- table
-- the lists of a file without records, which are empty in JSON and absent elsewhere
abbrev pub no_lists : Form → List ℕ
no_lists form =
    in_form form []
    (codes ",\n\"codes\":[],\n\"satellites\":[],\n\"tracked\":[],\n\"never\":[],\n\"passes\":[],\n\"hours\":[],\n\"gaps\":[],\n\"falls\":[],\n\"outages\":[],\n\"slips_together\":[],\n\"bursts\":[],\n\"half_runs\":[],\n\"missing_codes\":[]")

-- a file without records has no other numbers
unfoldable pub text_of_none : Form → List ℕ → List ℕ
text_of_none form marker =
    marker_text form marker ++ value_text form (codes "\nrecords ") (codes ",\"records\":") Whole (Some 0) ++ end_text form ++ no_lists form ++ close_text form

-- formula
-- the numbers of a file with this interval
abbrev pub text_of_epochs : Form → List ℕ → List AnyCode → ℕ → ℕ → Option ℕ → List EpochTableView → List ℕ
text_of_epochs form marker listed first most interval [] = text_of_none form marker
text_of_epochs form marker listed first most interval (e ∷ before) =
    quality_text form marker listed first e.time most interval (e ∷ before)

-- formula
-- the numbers of a table
abbrev pub quality_of : Form → WellFormedTable → List ℕ
quality_of form t = text_of_epochs form t.head.marker (map code_of_gps t.head.listed) t.first 32 (interval_of_file t) (newest_first t.epochs)

-- a text tells the numbers of each table whose text the file is; by one_table there is one
abbrev pub TellsQuality : Form → List ℕ → List ℕ → Type 0
TellsQuality form file text = (t : WellFormedTable) → IsWellFormedTable t → file ≡ table_text t → text ≡ quality_of form t
