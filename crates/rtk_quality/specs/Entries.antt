-- The entries of the lists: a row of the table, a line, or an object in JSON, each with the same numbers (this
-- project's rule).
use Rattle.std.specs.Prelude.{ℕ, List, [], Option, None, Some}
use Rattle.rtk_quality.specs.declared.strengths.CodeBand.{CodeBand}
use Rattle.rtk_obs.specs.declared.any_code.AnyCode.{AnyCode}
use Rattle.rtk_quality.specs.Falls.{largest_fall}
use Rattle.rtk_quality.specs.Strengths.{shown_bands, number_of}
use Rattle.rtk_quality.specs.LineText.{code_line, satellite_line, tracked_line, pass_line}
use Rattle.rtk_quality.specs.StationText.{hour_line, gap_line, outage_line, together_line, burst_line, run_line, missing_line, fall_line}
use Rattle.rtk_quality.specs.Rows.{code_row, signal_row, tracked_row, pass_row, hour_row, gap_row, outage_row, moment_row, burst_row, run_row, missing_row, fall_row}
use Rattle.rtk_quality.specs.declared.form.Form.{Form}
use Rattle.rtk_quality.specs.declared.form.Form.TheVariants.{Table, Lines, Json}
use Rattle.rtk_quality.specs.declared.code_numbers.CodeNumbers.{CodeNumbers}
use Rattle.rtk_quality.specs.declared.pass_sums.PassSums.{PassSums}
use Rattle.rtk_quality.specs.declared.satellite_counts.PassCounts.{PassCounts}
use Rattle.rtk_quality.specs.declared.hours.HourCounts.{HourCounts}
use Rattle.rtk_quality.specs.declared.gaps.Gap.{Gap}
use Rattle.rtk_quality.specs.declared.falls.Fall.{Fall}
use Rattle.rtk_quality.specs.declared.moments.Moment.{Moment}
use Rattle.rtk_quality.specs.declared.outages.Outage.{Outage}
use Rattle.rtk_quality.specs.declared.runs.HalfRun.{HalfRun}
use Rattle.rtk_quality.specs.declared.missing.MissingCode.{MissingCode}
use Rattle.rtk_quality.specs.declared.bursts.Burst.{Burst}

-- a row of the table, or else a line or an object
abbrev pub in_table : Form → List ℕ → List ℕ → List ℕ
in_table Table row line = row
in_table Lines row line = line
in_table Json row line = line

unfoldable pub code_entry : Form → AnyCode → ℕ → CodeNumbers → List ℕ
code_entry form code tracked n = in_table form (code_row code tracked n) (code_line form code tracked n)

unfoldable pub satellite_entry : Form → ℕ → AnyCode → CodeNumbers → List ℕ
satellite_entry form satellite code n = in_table form (signal_row satellite code n) (satellite_line form satellite code n)

unfoldable pub tracked_entry : Form → ℕ → PassSums → List ℕ
tracked_entry form satellite s = in_table form (tracked_row satellite s) (tracked_line form satellite s)

unfoldable pub pass_entry : Form → ℕ → PassCounts → List ℕ
pass_entry form satellite p = in_table form (pass_row satellite p) (pass_line form satellite p)

unfoldable pub hour_entry : Form → List AnyCode → HourCounts → List ℕ
hour_entry form listed h = in_table form (hour_row (shown_bands listed) h) (hour_line form listed h)

unfoldable pub gap_entry : Form → Gap → List ℕ
gap_entry form g = in_table form (gap_row g) (gap_line form g)

unfoldable pub outage_entry : Form → Outage → List ℕ
outage_entry form o = in_table form (outage_row o) (outage_line form o)

unfoldable pub moment_entry : Form → Moment → List ℕ
moment_entry form m = in_table form (moment_row m) (together_line form m)

unfoldable pub burst_entry : Form → Burst → List ℕ
burst_entry form b = in_table form (burst_row b) (burst_line form b)

unfoldable pub run_entry : Form → HalfRun → List ℕ
run_entry form h = in_table form (run_row h) (run_line form h)

unfoldable pub missing_entry : Form → MissingCode → List ℕ
missing_entry form m = in_table form (missing_row m) (missing_line form m)

unfoldable pub fall_entry : Form → CodeBand → Fall → List ℕ
fall_entry form band f = in_table form (fall_row (number_of band) f) (fall_line form band f)

abbrev pub entry_of_fall : Form → CodeBand → Option Fall → List ℕ
entry_of_fall form band None = []
entry_of_fall form band (Some f) = fall_entry form band f

-- the largest fall of a band, if there is one
abbrev pub fall_part : Form → List HourCounts → CodeBand → List ℕ
fall_part form hours band = entry_of_fall form band (largest_fall band hours)
