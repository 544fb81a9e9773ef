-- The rows of a table (this project's rule).
use Rattle.std.specs.Prelude.{ℕ, List, [], ◌∷◌, ◌++◌, take, codes, Some}
use Rattle.rtk_obs.specs.declared.any_code.AnyCode.{AnyCode}
use Rattle.rtk_obs.specs.AnyCode.{name_of}
use Rattle.rtk_obs.specs.CivilText.{civil_text}
use Rattle.rtk_obs.specs.SatelliteIndex.{index_name}
use Rattle.rtk_obs.specs.declared.time.Civil.{Civil}
use Rattle.rtk_obs.specs.Reading.{reading_of}
use Rattle.rtk_quality.specs.Counts.{plus, percent_tenths, phases_per_slip, mean_hundredths, mean_tenths}
use Rattle.rtk_quality.specs.Hours.{start_of}
use Rattle.rtk_quality.specs.Columns.{column, cells_text}
use Rattle.rtk_quality.specs.LineText.{having_text, per_slip_text}
use Rattle.rtk_quality.specs.Strengths.{of_band}
use Rattle.rtk_quality.specs.declared.columns.Cell.{Cell}
use Rattle.rtk_quality.specs.declared.form.Form.TheVariants.{Lines}
use Rattle.rtk_quality.specs.declared.form.Decimals.TheVariants.{Whole, Tenths, Hundredths, Thousandths}
use Rattle.rtk_quality.specs.declared.code_numbers.CodeNumbers.{CodeNumbers}
use Rattle.rtk_quality.specs.declared.pass_sums.PassSums.{PassSums}
use Rattle.rtk_quality.specs.declared.satellite_counts.PassCounts.{PassCounts}
use Rattle.rtk_quality.specs.declared.strengths.BandStrengths.{BandStrengths}
use Rattle.rtk_quality.specs.declared.strengths.ShownBands.{ShownBands}
use Rattle.rtk_quality.specs.declared.hours.HourCounts.{HourCounts}
use Rattle.rtk_quality.specs.declared.gaps.Gap.{Gap}
use Rattle.rtk_quality.specs.declared.falls.Fall.{Fall}
use Rattle.rtk_quality.specs.declared.moments.Moment.{Moment}
use Rattle.rtk_quality.specs.declared.outages.Outage.{Outage}
use Rattle.rtk_quality.specs.declared.runs.HalfRun.{HalfRun}
use Rattle.rtk_quality.specs.declared.missing.MissingCode.{MissingCode}
use Rattle.rtk_quality.specs.declared.bursts.Burst.{Burst}

-- formula
-- a satellite, as in G05 (RINEX 3.05, section 3.5)
abbrev pub satellite_mark : ℕ → List ℕ
satellite_mark satellite = index_name satellite

-- table
-- the columns of a code: phases, of how many, and how many percent; ranges without a phase; slips, returns,
-- rises and half cycles; the least, mean and greatest strength
abbrev pub numbers_columns : CodeNumbers → List Cell
numbers_columns n =
    column 7 Whole (Some n.counts.phases)
    ∷ column 7 Whole (Some n.possible)
    ∷ column 7 Tenths (Some (percent_tenths n.counts.phases n.possible))
    ∷ column 7 Whole (Some n.counts.ranges)
    ∷ column 6 Whole (Some n.counts.slips)
    ∷ column 8 Whole (Some n.counts.returns)
    ∷ column 6 Whole (Some n.counts.rises)
    ∷ column 5 Whole (Some n.counts.halves)
    ∷ column 8 Thousandths n.counts.least
    ∷ column 6 Hundredths (mean_hundredths n.counts.strength_sum n.counts.strengths)
    ∷ column 7 Thousandths n.counts.greatest
    ∷ []

-- the numbers of a code, up to the end of their row
unfoldable pub numbers_text : CodeNumbers → List ℕ
numbers_text n = cells_text (numbers_columns n) ++ codes "\n"

-- the row of a code that a satellite has
unfoldable pub signal_row : ℕ → AnyCode → CodeNumbers → List ℕ
signal_row satellite code n = satellite_mark satellite ++ codes " " ++ name_of code ++ numbers_text n

-- formula
-- the two rows of a code over all satellites that have it, of so many that are tracked
unfoldable pub code_row : AnyCode → ℕ → CodeNumbers → List ℕ
code_row code tracked n =
    codes "all " ++ name_of code ++ numbers_text n
    ++ codes "      " ++ having_text Lines n.satellites tracked ++ per_slip_text Lines (phases_per_slip n.counts.phases n.counts.slips) ++ codes "\n"

-- table
-- the row of all codes of a satellite: phases, slips and their moments, outages and their time in seconds
unfoldable pub tracked_row : ℕ → PassSums → List ℕ
tracked_row satellite s =
    satellite_mark satellite
    ++ cells_text (column 10 Whole (Some s.phases) ∷ column 7 Whole (Some s.slips) ∷ column 9 Whole (Some s.moments)
    ∷ column 9 Whole (Some s.outages) ∷ column 12 Thousandths (Some s.outage_ms) ∷ [])
    ++ codes "\n"

-- formula
-- two moments, each of them cut off behind so many characters
unfoldable pub span_part : Civil → Civil → ℕ → List ℕ
span_part from until width = codes " " ++ take width (civil_text from) ++ codes " " ++ take width (civil_text until)

-- table
-- the row of a pass: its span in whole seconds, and the same numbers
unfoldable pub pass_row : ℕ → PassCounts → List ℕ
pass_row satellite p =
    satellite_mark satellite ++ span_part p.from p.until 19
    ++ cells_text (column 7 Whole (Some p.sums.phases) ∷ column 6 Whole (Some p.sums.slips) ∷ column 8 Whole (Some p.sums.moments)
    ∷ column 5 Whole (Some p.sums.outages) ∷ column 10 Thousandths (Some p.sums.outage_ms) ∷ [])
    ++ codes "\n"

-- the mean strength of a band
abbrev pub strength_column : BandStrengths → Cell
strength_column b = column 8 Hundredths (mean_hundredths b.sum b.count)

-- table
-- the row of an hour: records, and how many there would be without missing epochs; satellites in the mean; slips
-- and returns; the mean strengths of three bands
unfoldable pub hour_row : ShownBands → HourCounts → List ℕ
hour_row bands h =
    take 16 (civil_text (reading_of (start_of h.hour)))
    ++ cells_text (column 8 Whole (Some h.records) ∷ column 6 Whole (Some (plus h.records h.missing)) ∷ column 11 Tenths (mean_tenths h.rows h.records)
    ∷ column 7 Whole (Some h.locks.slips) ∷ column 8 Whole (Some h.locks.returns)
    ∷ strength_column (of_band bands.first h.strengths) ∷ strength_column (of_band bands.second h.strengths) ∷ strength_column (of_band bands.third h.strengths) ∷ [])
    ++ codes "\n"

-- the row of a gap
unfoldable pub gap_row : Gap → List ℕ
gap_row g = civil_text g.from ++ codes " " ++ civil_text g.until ++ cells_text (column 10 Whole (Some g.missing) ∷ []) ++ codes "\n"

-- table
-- the row of an outage: its span in whole seconds, and its time in seconds
unfoldable pub outage_row : Outage → List ℕ
outage_row o =
    satellite_mark o.satellite ++ span_part o.absence.from o.absence.until 19 ++ cells_text (column 12 Thousandths (Some o.absence.ms) ∷ []) ++ codes "\n"

-- table
-- the row of an epoch at which several satellites slip: how many do, and how many have a phase
unfoldable pub moment_row : Moment → List ℕ
moment_row m =
    take 19 (civil_text m.time) ++ cells_text (column 11 Whole (Some m.together.slipping) ∷ column 6 Whole (Some m.together.tracked) ∷ []) ++ codes "\n"

-- table
-- the row of an hour in which a satellite slips at several epochs: at how many
unfoldable pub burst_row : Burst → List ℕ
burst_row b =
    satellite_mark b.satellite ++ codes " " ++ take 16 (civil_text (reading_of (start_of b.hour))) ++ cells_text (column 8 Whole (Some b.moments) ∷ []) ++ codes "\n"

-- table
-- the row of a run of half cycles: its span in whole seconds, and its epochs
unfoldable pub run_row : HalfRun → List ℕ
run_row h =
    satellite_mark h.satellite ++ span_part h.run.from h.run.until 19 ++ cells_text (column 10 Whole (Some h.run.epochs) ∷ []) ++ codes "\n"

-- table
-- the row of a run of epochs at which a code of a satellite is missing: its span in whole seconds, and its epochs
unfoldable pub missing_row : MissingCode → List ℕ
missing_row m =
    satellite_mark m.satellite ++ codes " " ++ name_of m.code ++ span_part m.run.from m.run.until 19 ++ cells_text (column 10 Whole (Some m.run.epochs) ∷ []) ++ codes "\n"

-- the row of the largest fall of a band, by the number of the band
unfoldable pub fall_row : ℕ → Fall → List ℕ
fall_row band f =
    cells_text (column 4 Whole (Some band) ∷ []) ++ span_part (reading_of (start_of f.from)) (reading_of (start_of f.until)) 16
    ++ cells_text (column 8 Hundredths (Some f.by) ∷ []) ++ codes "\n"
