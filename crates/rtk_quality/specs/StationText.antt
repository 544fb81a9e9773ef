-- The lines of the hours, gaps, falls, outages and moments of a file, and what stands for them in JSON (this project's rule).
use Rattle.std.specs.Prelude.{ℕ, Bool, List, [], ◌++◌, codes, Some, if◌then◌else◌}
use Rattle.std.specs.List.{list_any}
use Rattle.rtk_quality.specs.declared.strengths.CodeBand.{CodeBand}
use Rattle.rtk_quality.specs.declared.strengths.CodeBand.TheVariants.{B1, B2, B5, B6, B7, B8}
use Rattle.rtk_obs.specs.declared.any_code.AnyCode.{AnyCode}
use Rattle.rtk_obs.specs.Reading.{reading_of}
use Rattle.rtk_quality.specs.Counts.{plus, mean_hundredths, mean_tenths}
use Rattle.rtk_quality.specs.Hours.{start_of}
use Rattle.rtk_quality.specs.Strengths.{number_of, is_of_band, of_band}
use Rattle.rtk_quality.specs.LineText.{having_text, satellite_name, code_name}
use Rattle.rtk_quality.specs.Forms.{value_text, moment_text, start_text, end_text}
use Rattle.rtk_quality.specs.declared.form.Form.{Form}
use Rattle.rtk_quality.specs.declared.form.Decimals.TheVariants.{Whole, Tenths, Hundredths, Thousandths}
use Rattle.rtk_quality.specs.declared.hours.HourCounts.{HourCounts}
use Rattle.rtk_quality.specs.declared.gaps.Gap.{Gap}
use Rattle.rtk_quality.specs.declared.falls.Fall.{Fall}
use Rattle.rtk_quality.specs.declared.moments.Moment.{Moment}
use Rattle.rtk_quality.specs.declared.outages.Outage.{Outage}
use Rattle.rtk_quality.specs.declared.runs.HalfRun.{HalfRun}
use Rattle.rtk_quality.specs.declared.missing.MissingCode.{MissingCode}
use Rattle.rtk_quality.specs.declared.bursts.Burst.{Burst}
use Rattle.rtk_quality.specs.declared.strengths.Strengths.{Strengths}

-- a code is of this band
abbrev pub has_band : List AnyCode → CodeBand → Bool
has_band listed band = list_any (λ c. is_of_band band c) listed

-- table
abbrev pub strength_words : CodeBand → List ℕ
strength_words B1 = codes " mean-strength-1 "
strength_words B2 = codes " mean-strength-2 "
strength_words B5 = codes " mean-strength-5 "
strength_words B6 = codes " mean-strength-6 "
strength_words B7 = codes " mean-strength-7 "
strength_words B8 = codes " mean-strength-8 "

-- table
abbrev pub strength_key : CodeBand → List ℕ
strength_key B1 = codes ",\"mean_strength_1_centidbhz\":"
strength_key B2 = codes ",\"mean_strength_2_centidbhz\":"
strength_key B5 = codes ",\"mean_strength_5_centidbhz\":"
strength_key B6 = codes ",\"mean_strength_6_centidbhz\":"
strength_key B7 = codes ",\"mean_strength_7_centidbhz\":"
strength_key B8 = codes ",\"mean_strength_8_centidbhz\":"

-- the mean strength of a band, if a code of the file is of this band
abbrev pub strength_text : Form → List AnyCode → Strengths → CodeBand → List ℕ
strength_text form listed s band =
    if has_band listed band
    then value_text form (strength_words band) (strength_key band) Hundredths (mean_hundredths (of_band band s).sum (of_band band s).count)
    else []

-- those of all bands
unfoldable pub all_strengths_text : Form → List AnyCode → Strengths → List ℕ
all_strengths_text form listed s =
    strength_text form listed s B1 ++ strength_text form listed s B2 ++ strength_text form listed s B5
    ++ strength_text form listed s B6 ++ strength_text form listed s B7 ++ strength_text form listed s B8

-- formula
-- records, and how many there would be without missing epochs; satellites in the mean; slips and returns
unfoldable pub hour_counts_text : Form → HourCounts → List ℕ
hour_counts_text form h =
    value_text form (codes " records ") (codes ",\"records\":") Whole (Some h.records)
    ++ value_text form (codes " of ") (codes ",\"expected\":") Whole (Some (plus h.records h.missing))
    ++ value_text form (codes " mean-satellites ") (codes ",\"mean_satellites_tenths\":") Tenths (mean_tenths h.rows h.records)
    ++ value_text form (codes " slips ") (codes ",\"slips\":") Whole (Some h.locks.slips)
    ++ value_text form (codes " returns ") (codes ",\"returns\":") Whole (Some h.locks.returns)

-- the line of an hour
unfoldable pub hour_line : Form → List AnyCode → HourCounts → List ℕ
hour_line form listed h =
    start_text form (codes "hour") ++ moment_text form (codes " ") (codes "\"hour\":") (reading_of (start_of h.hour)) ++ hour_counts_text form h
    ++ all_strengths_text form listed h.strengths ++ end_text form

-- the line of a gap
unfoldable pub gap_line : Form → Gap → List ℕ
gap_line form g =
    start_text form (codes "gap") ++ moment_text form (codes " from ") (codes "\"from\":") g.from ++ moment_text form (codes " until ") (codes ",\"until\":") g.until
    ++ value_text form (codes " missing ") (codes ",\"missing\":") Whole (Some g.missing) ++ end_text form

-- formula
-- the line of an outage
unfoldable pub outage_line : Form → Outage → List ℕ
outage_line form o =
    start_text form (codes "outage") ++ satellite_name form o.satellite
    ++ moment_text form (codes " from ") (codes ",\"from\":") o.absence.from ++ moment_text form (codes " until ") (codes ",\"until\":") o.absence.until
    ++ value_text form (codes " outage-time ") (codes ",\"outage_time_ms\":") Thousandths (Some o.absence.ms) ++ end_text form

-- formula
-- the line of an epoch at which several satellites slip
unfoldable pub together_line : Form → Moment → List ℕ
together_line form m =
    start_text form (codes "slip-together") ++ moment_text form (codes " ") (codes "\"time\":") m.time
    ++ having_text form m.together.slipping m.together.tracked ++ end_text form

-- formula
-- the line of an hour in which a satellite slips at several epochs
unfoldable pub burst_line : Form → Burst → List ℕ
burst_line form b =
    start_text form (codes "burst") ++ satellite_name form b.satellite
    ++ moment_text form (codes " hour ") (codes ",\"hour\":") (reading_of (start_of b.hour))
    ++ value_text form (codes " moments ") (codes ",\"moments\":") Whole (Some b.moments) ++ end_text form

-- formula
-- the line of a run of half cycles
unfoldable pub run_line : Form → HalfRun → List ℕ
run_line form h =
    start_text form (codes "half-run") ++ satellite_name form h.satellite
    ++ moment_text form (codes " from ") (codes ",\"from\":") h.run.from ++ moment_text form (codes " until ") (codes ",\"until\":") h.run.until
    ++ value_text form (codes " epochs ") (codes ",\"epochs\":") Whole (Some h.run.epochs) ++ end_text form

-- formula
-- the line of a run of epochs at which a code of a satellite is missing
unfoldable pub missing_line : Form → MissingCode → List ℕ
missing_line form m =
    start_text form (codes "missing-code") ++ satellite_name form m.satellite ++ code_name form m.code
    ++ moment_text form (codes " from ") (codes ",\"from\":") m.run.from ++ moment_text form (codes " until ") (codes ",\"until\":") m.run.until
    ++ value_text form (codes " epochs ") (codes ",\"epochs\":") Whole (Some m.run.epochs) ++ end_text form

-- the line of a fall
unfoldable pub fall_line : Form → CodeBand → Fall → List ℕ
fall_line form band f =
    start_text form (codes "fall") ++ value_text form (codes " band ") (codes "\"band\":") Whole (Some (number_of band))
    ++ moment_text form (codes " from ") (codes ",\"from\":") (reading_of (start_of f.from))
    ++ moment_text form (codes " until ") (codes ",\"until\":") (reading_of (start_of f.until))
    ++ value_text form (codes " mean-strength ") (codes ",\"mean_strength_centidbhz\":") Hundredths (Some f.by) ++ end_text form
