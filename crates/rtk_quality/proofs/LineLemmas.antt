-- The parts of a line, one after another.
use Rattle.std.proofs.Common.{◌≡◌, ℕ, List, ◌++◌, Option, Some, ap, ◌∙◌}
use Rattle.std.specs.Prelude.{codes}
use Rattle.rtk_quality.specs.declared.strengths.CodeBand.{CodeBand}
use Rattle.rtk_quality.specs.declared.strengths.CodeBand.TheVariants.{B1, B2, B5, B6, B7, B8}
use Rattle.rtk_obs.specs.declared.any_code.AnyCode.{AnyCode}
use Rattle.rtk_obs.specs.declared.time.Civil.{Civil}
use Rattle.rtk_obs.specs.Reading.{reading_of}
use Rattle.rtk_quality.specs.Counts.{plus, phases_per_slip, mean_hundredths, mean_tenths}
use Rattle.rtk_quality.specs.Forms.{value_text, moment_text, start_text, end_text}
use Rattle.rtk_quality.specs.LineText.{satellite_name, code_name, having_text, per_slip_text, locks_text, sums_text, strengths_text}
use Rattle.rtk_quality.specs.QualityText.{marker_text, satellites_text, station_text, span_text, listed_text, heading_text, falls_of}
use Rattle.rtk_quality.specs.Hours.{start_of}
use Rattle.rtk_quality.specs.Strengths.{number_of}
use Rattle.rtk_quality.specs.StationText.{strength_text, all_strengths_text, hour_counts_text, hour_line, gap_line, outage_line, together_line, burst_line, run_line, missing_line, fall_line}
use Rattle.rtk_quality.specs.Entries.{fall_part}
use Rattle.rtk_quality.specs.declared.hours.HourCounts.{HourCounts}
use Rattle.rtk_quality.specs.declared.gaps.Gap.{Gap}
use Rattle.rtk_quality.specs.declared.heading.ListedCounts.{ListedCounts}
use Rattle.rtk_quality.specs.declared.moments.Moment.{Moment}
use Rattle.rtk_quality.specs.declared.outages.Outage.{Outage}
use Rattle.rtk_quality.specs.declared.runs.HalfRun.{HalfRun}
use Rattle.rtk_quality.specs.declared.missing.MissingCode.{MissingCode}
use Rattle.rtk_quality.specs.declared.bursts.Burst.{Burst}
use Rattle.rtk_quality.specs.declared.falls.Fall.{Fall}
use Rattle.rtk_quality.specs.declared.form.Form.{Form}
use Rattle.rtk_quality.specs.declared.form.Decimals.TheVariants.{Whole, Tenths, Hundredths, Thousandths}
use Rattle.rtk_quality.specs.declared.code_counts.CodeCounts.{CodeCounts}
use Rattle.rtk_quality.specs.declared.code_numbers.PerSlip.{PerSlip}
use Rattle.rtk_quality.specs.declared.record_counts.RecordCounts.{RecordCounts}
use Rattle.rtk_quality.specs.declared.pass_sums.PassSums.{PassSums}
use Rattle.rtk_quality.specs.declared.strengths.Strengths.{Strengths}
use Rattle.rtk_quality.proofs.ListLemmas.{and-then, three, four, five, six}

pub strengths-are : (form : Form) (c : CodeCounts) (mean : Option ℕ) (t0 t1 t2 t3 : List ℕ) → mean ≡ mean_hundredths c.strength_sum c.strengths
    → t1 ≡ t0 ++ value_text form (codes " least-strength ") (codes ",\"least_strength_millidbhz\":") Thousandths c.least
    → t2 ≡ t1 ++ value_text form (codes " mean-strength ") (codes ",\"mean_strength_centidbhz\":") Hundredths mean
    → t3 ≡ t2 ++ value_text form (codes " greatest-strength ") (codes ",\"greatest_strength_millidbhz\":") Thousandths c.greatest
    → t3 ≡ t0 ++ strengths_text form c
unfolding strengths_text
strengths-are form c mean t0 t1 t2 t3 is e1 e2 e3 =
    three t0 t1 t2 t3 (value_text form (codes " least-strength ") (codes ",\"least_strength_millidbhz\":") Thousandths c.least)
    (value_text form (codes " mean-strength ") (codes ",\"mean_strength_centidbhz\":") Hundredths (mean_hundredths c.strength_sum c.strengths))
    (value_text form (codes " greatest-strength ") (codes ",\"greatest_strength_millidbhz\":") Thousandths c.greatest) e1
    (e2 ∙ ap (λ (m : Option ℕ). t1 ++ value_text form (codes " mean-strength ") (codes ",\"mean_strength_centidbhz\":") Hundredths m) is) e3

pub satellites-are : (form : Form) (satellites : ℕ) (r : RecordCounts) (mean : Option ℕ) (t0 t1 t2 t3 t4 : List ℕ) → mean ≡ mean_tenths r.rows r.records
    → t1 ≡ t0 ++ value_text form (codes "\nsatellites ") (codes ",\"satellites\":") Whole (Some satellites)
    → t2 ≡ t1 ++ value_text form (codes "\nleast-satellites ") (codes ",\"least_satellites\":") Whole r.least_rows
    → t3 ≡ t2 ++ value_text form (codes "\nmean-satellites ") (codes ",\"mean_satellites_tenths\":") Tenths mean
    → t4 ≡ t3 ++ value_text form (codes "\ngreatest-satellites ") (codes ",\"greatest_satellites\":") Whole r.most_rows
    → t4 ≡ t0 ++ satellites_text form satellites r
unfolding satellites_text
satellites-are form satellites r mean t0 t1 t2 t3 t4 is e1 e2 e3 e4 =
    four t0 t1 t2 t3 t4 (value_text form (codes "\nsatellites ") (codes ",\"satellites\":") Whole (Some satellites))
    (value_text form (codes "\nleast-satellites ") (codes ",\"least_satellites\":") Whole r.least_rows)
    (value_text form (codes "\nmean-satellites ") (codes ",\"mean_satellites_tenths\":") Tenths (mean_tenths r.rows r.records))
    (value_text form (codes "\ngreatest-satellites ") (codes ",\"greatest_satellites\":") Whole r.most_rows) e1 e2
    (e3 ∙ ap (λ (m : Option ℕ). t2 ++ value_text form (codes "\nmean-satellites ") (codes ",\"mean_satellites_tenths\":") Tenths m) is) e4

pub span-is : (form : Form) (from until : Civil) (interval : Option ℕ) (r : RecordCounts) (t0 t1 t2 t3 t4 t5 : List ℕ)
    → t1 ≡ t0 ++ moment_text form (codes "\nfrom ") (codes ",\"from\":") from
    → t2 ≡ t1 ++ moment_text form (codes "\nuntil ") (codes ",\"until\":") until
    → t3 ≡ t2 ++ value_text form (codes "\ninterval ") (codes ",\"interval_ms\":") Thousandths interval
    → t4 ≡ t3 ++ value_text form (codes "\nrecords ") (codes ",\"records\":") Whole (Some r.records)
    → t5 ≡ t4 ++ value_text form (codes "\nmissing ") (codes ",\"missing\":") Whole (Some r.missing)
    → t5 ≡ t0 ++ span_text form from until interval r
unfolding span_text
span-is form from until interval r t0 t1 t2 t3 t4 t5 e1 e2 e3 e4 e5 =
    five t0 t1 t2 t3 t4 t5 (moment_text form (codes "\nfrom ") (codes ",\"from\":") from)
    (moment_text form (codes "\nuntil ") (codes ",\"until\":") until)
    (value_text form (codes "\ninterval ") (codes ",\"interval_ms\":") Thousandths interval)
    (value_text form (codes "\nrecords ") (codes ",\"records\":") Whole (Some r.records))
    (value_text form (codes "\nmissing ") (codes ",\"missing\":") Whole (Some r.missing)) e1 e2 e3 e4 e5

pub locks-are : (form : Form) (c : CodeCounts) (each : PerSlip) (t0 t1 t2 t3 t4 t5 t6 : List ℕ) → each ≡ phases_per_slip c.phases c.slips
    → t1 ≡ t0 ++ value_text form (codes " ranges-only ") (codes ",\"ranges_only\":") Whole (Some c.ranges)
    → t2 ≡ t1 ++ value_text form (codes " slips ") (codes ",\"slips\":") Whole (Some c.slips)
    → t3 ≡ t2 ++ value_text form (codes " returns ") (codes ",\"returns\":") Whole (Some c.returns)
    → t4 ≡ t3 ++ value_text form (codes " rises ") (codes ",\"rises\":") Whole (Some c.rises)
    → t5 ≡ t4 ++ value_text form (codes " half-cycles ") (codes ",\"half_cycles\":") Whole (Some c.halves)
    → t6 ≡ t5 ++ per_slip_text form each
    → t6 ≡ t0 ++ locks_text form c
unfolding locks_text
locks-are form c each t0 t1 t2 t3 t4 t5 t6 is e1 e2 e3 e4 e5 e6 =
    six t0 t1 t2 t3 t4 t5 t6 (value_text form (codes " ranges-only ") (codes ",\"ranges_only\":") Whole (Some c.ranges))
    (value_text form (codes " slips ") (codes ",\"slips\":") Whole (Some c.slips))
    (value_text form (codes " returns ") (codes ",\"returns\":") Whole (Some c.returns))
    (value_text form (codes " rises ") (codes ",\"rises\":") Whole (Some c.rises))
    (value_text form (codes " half-cycles ") (codes ",\"half_cycles\":") Whole (Some c.halves))
    (per_slip_text form (phases_per_slip c.phases c.slips)) e1 e2 e3 e4 e5
    (e6 ∙ ap (λ (p : PerSlip). t5 ++ per_slip_text form p) is)

pub sums-are : (form : Form) (s : PassSums) (t0 t1 t2 t3 t4 t5 : List ℕ)
    → t1 ≡ t0 ++ value_text form (codes " phases ") (codes ",\"phases\":") Whole (Some s.phases)
    → t2 ≡ t1 ++ value_text form (codes " slips ") (codes ",\"slips\":") Whole (Some s.slips)
    → t3 ≡ t2 ++ value_text form (codes " moments ") (codes ",\"moments\":") Whole (Some s.moments)
    → t4 ≡ t3 ++ value_text form (codes " outages ") (codes ",\"outages\":") Whole (Some s.outages)
    → t5 ≡ t4 ++ value_text form (codes " outage-time ") (codes ",\"outage_time_ms\":") Thousandths (Some s.outage_ms)
    → t5 ≡ t0 ++ sums_text form s
unfolding sums_text
sums-are form s t0 t1 t2 t3 t4 t5 e1 e2 e3 e4 e5 =
    five t0 t1 t2 t3 t4 t5 (value_text form (codes " phases ") (codes ",\"phases\":") Whole (Some s.phases))
    (value_text form (codes " slips ") (codes ",\"slips\":") Whole (Some s.slips))
    (value_text form (codes " moments ") (codes ",\"moments\":") Whole (Some s.moments))
    (value_text form (codes " outages ") (codes ",\"outages\":") Whole (Some s.outages))
    (value_text form (codes " outage-time ") (codes ",\"outage_time_ms\":") Thousandths (Some s.outage_ms)) e1 e2 e3 e4 e5

pub station-is : (form : Form) (s : PassSums) (t0 t1 t2 t3 t4 : List ℕ)
    → t1 ≡ t0 ++ value_text form (codes "\nslips ") (codes ",\"slips\":") Whole (Some s.slips)
    → t2 ≡ t1 ++ value_text form (codes "\nmoments ") (codes ",\"moments\":") Whole (Some s.moments)
    → t3 ≡ t2 ++ value_text form (codes "\noutages ") (codes ",\"outages\":") Whole (Some s.outages)
    → t4 ≡ t3 ++ value_text form (codes "\noutage-time ") (codes ",\"outage_time_ms\":") Thousandths (Some s.outage_ms)
    → t4 ≡ t0 ++ station_text form s
unfolding station_text
station-is form s t0 t1 t2 t3 t4 e1 e2 e3 e4 =
    four t0 t1 t2 t3 t4 (value_text form (codes "\nslips ") (codes ",\"slips\":") Whole (Some s.slips))
    (value_text form (codes "\nmoments ") (codes ",\"moments\":") Whole (Some s.moments))
    (value_text form (codes "\noutages ") (codes ",\"outages\":") Whole (Some s.outages))
    (value_text form (codes "\noutage-time ") (codes ",\"outage_time_ms\":") Thousandths (Some s.outage_ms)) e1 e2 e3 e4

pub hour-counts-are : (form : Form) (h : HourCounts) (expected : ℕ) (mean : Option ℕ) (t0 t1 t2 t3 t4 t5 : List ℕ) → expected ≡ plus h.records h.missing → mean ≡ mean_tenths h.rows h.records
    → t1 ≡ t0 ++ value_text form (codes " records ") (codes ",\"records\":") Whole (Some h.records)
    → t2 ≡ t1 ++ value_text form (codes " of ") (codes ",\"expected\":") Whole (Some expected)
    → t3 ≡ t2 ++ value_text form (codes " mean-satellites ") (codes ",\"mean_satellites_tenths\":") Tenths mean
    → t4 ≡ t3 ++ value_text form (codes " slips ") (codes ",\"slips\":") Whole (Some h.locks.slips)
    → t5 ≡ t4 ++ value_text form (codes " returns ") (codes ",\"returns\":") Whole (Some h.locks.returns)
    → t5 ≡ t0 ++ hour_counts_text form h
unfolding hour_counts_text
hour-counts-are form h expected mean t0 t1 t2 t3 t4 t5 is_expected is e1 e2 e3 e4 e5 =
    five t0 t1 t2 t3 t4 t5 (value_text form (codes " records ") (codes ",\"records\":") Whole (Some h.records))
    (value_text form (codes " of ") (codes ",\"expected\":") Whole (Some (plus h.records h.missing)))
    (value_text form (codes " mean-satellites ") (codes ",\"mean_satellites_tenths\":") Tenths (mean_tenths h.rows h.records))
    (value_text form (codes " slips ") (codes ",\"slips\":") Whole (Some h.locks.slips))
    (value_text form (codes " returns ") (codes ",\"returns\":") Whole (Some h.locks.returns)) e1
    (e2 ∙ ap (λ (n : ℕ). t1 ++ value_text form (codes " of ") (codes ",\"expected\":") Whole (Some n)) is_expected)
    (e3 ∙ ap (λ (m : Option ℕ). t2 ++ value_text form (codes " mean-satellites ") (codes ",\"mean_satellites_tenths\":") Tenths m) is) e4 e5

pub hour-is : (form : Form) (listed : List AnyCode) (h : HourCounts) (start : Civil) (t0 t1 t2 t3 t4 t5 : List ℕ) → start ≡ reading_of (start_of h.hour)
    → t1 ≡ t0 ++ start_text form (codes "hour") → t2 ≡ t1 ++ moment_text form (codes " ") (codes "\"hour\":") start → t3 ≡ t2 ++ hour_counts_text form h
    → t4 ≡ t3 ++ all_strengths_text form listed h.strengths → t5 ≡ t4 ++ end_text form → t5 ≡ t0 ++ hour_line form listed h
unfolding hour_line
hour-is form listed h start t0 t1 t2 t3 t4 t5 is e1 e2 e3 e4 e5 =
    five t0 t1 t2 t3 t4 t5 (start_text form (codes "hour")) (moment_text form (codes " ") (codes "\"hour\":") (reading_of (start_of h.hour)))
    (hour_counts_text form h) (all_strengths_text form listed h.strengths) (end_text form) e1
    (e2 ∙ ap (λ (c : Civil). t1 ++ moment_text form (codes " ") (codes "\"hour\":") c) is) e3 e4 e5

pub band-strengths-are : (form : Form) (listed : List AnyCode) (s : Strengths) (t0 t1 t2 t3 t4 t5 t6 : List ℕ)
    → t1 ≡ t0 ++ strength_text form listed s B1 → t2 ≡ t1 ++ strength_text form listed s B2 → t3 ≡ t2 ++ strength_text form listed s B5
    → t4 ≡ t3 ++ strength_text form listed s B6 → t5 ≡ t4 ++ strength_text form listed s B7 → t6 ≡ t5 ++ strength_text form listed s B8
    → t6 ≡ t0 ++ all_strengths_text form listed s
unfolding all_strengths_text
band-strengths-are form listed s t0 t1 t2 t3 t4 t5 t6 e1 e2 e3 e4 e5 e6 =
    six t0 t1 t2 t3 t4 t5 t6 (strength_text form listed s B1) (strength_text form listed s B2) (strength_text form listed s B5)
    (strength_text form listed s B6) (strength_text form listed s B7) (strength_text form listed s B8) e1 e2 e3 e4 e5 e6

pub gap-is : (form : Form) (g : Gap) (t0 t1 t2 t3 t4 t5 : List ℕ)
    → t1 ≡ t0 ++ start_text form (codes "gap") → t2 ≡ t1 ++ moment_text form (codes " from ") (codes "\"from\":") g.from
    → t3 ≡ t2 ++ moment_text form (codes " until ") (codes ",\"until\":") g.until → t4 ≡ t3 ++ value_text form (codes " missing ") (codes ",\"missing\":") Whole (Some g.missing)
    → t5 ≡ t4 ++ end_text form → t5 ≡ t0 ++ gap_line form g
unfolding gap_line
gap-is form g t0 t1 t2 t3 t4 t5 e1 e2 e3 e4 e5 =
    five t0 t1 t2 t3 t4 t5 (start_text form (codes "gap")) (moment_text form (codes " from ") (codes "\"from\":") g.from)
    (moment_text form (codes " until ") (codes ",\"until\":") g.until) (value_text form (codes " missing ") (codes ",\"missing\":") Whole (Some g.missing)) (end_text form) e1 e2 e3 e4 e5

pub outage-is : (form : Form) (o : Outage) (t0 t1 t2 t3 t4 t5 t6 : List ℕ)
    → t1 ≡ t0 ++ start_text form (codes "outage") → t2 ≡ t1 ++ satellite_name form o.satellite
    → t3 ≡ t2 ++ moment_text form (codes " from ") (codes ",\"from\":") o.absence.from
    → t4 ≡ t3 ++ moment_text form (codes " until ") (codes ",\"until\":") o.absence.until
    → t5 ≡ t4 ++ value_text form (codes " outage-time ") (codes ",\"outage_time_ms\":") Thousandths (Some o.absence.ms)
    → t6 ≡ t5 ++ end_text form → t6 ≡ t0 ++ outage_line form o
unfolding outage_line
outage-is form o t0 t1 t2 t3 t4 t5 t6 e1 e2 e3 e4 e5 e6 =
    six t0 t1 t2 t3 t4 t5 t6 (start_text form (codes "outage")) (satellite_name form o.satellite) (moment_text form (codes " from ") (codes ",\"from\":") o.absence.from)
    (moment_text form (codes " until ") (codes ",\"until\":") o.absence.until)
    (value_text form (codes " outage-time ") (codes ",\"outage_time_ms\":") Thousandths (Some o.absence.ms)) (end_text form) e1 e2 e3 e4 e5 e6

pub moment-is : (form : Form) (m : Moment) (t0 t1 t2 t3 t4 : List ℕ)
    → t1 ≡ t0 ++ start_text form (codes "slip-together") → t2 ≡ t1 ++ moment_text form (codes " ") (codes "\"time\":") m.time
    → t3 ≡ t2 ++ having_text form m.together.slipping m.together.tracked → t4 ≡ t3 ++ end_text form → t4 ≡ t0 ++ together_line form m
unfolding together_line
moment-is form m t0 t1 t2 t3 t4 e1 e2 e3 e4 =
    four t0 t1 t2 t3 t4 (start_text form (codes "slip-together")) (moment_text form (codes " ") (codes "\"time\":") m.time)
    (having_text form m.together.slipping m.together.tracked) (end_text form) e1 e2 e3 e4

pub burst-is : (form : Form) (b : Burst) (start : Civil) (t0 t1 t2 t3 t4 t5 : List ℕ) → start ≡ reading_of (start_of b.hour)
    → t1 ≡ t0 ++ start_text form (codes "burst") → t2 ≡ t1 ++ satellite_name form b.satellite
    → t3 ≡ t2 ++ moment_text form (codes " hour ") (codes ",\"hour\":") start
    → t4 ≡ t3 ++ value_text form (codes " moments ") (codes ",\"moments\":") Whole (Some b.moments) → t5 ≡ t4 ++ end_text form → t5 ≡ t0 ++ burst_line form b
unfolding burst_line
burst-is form b start t0 t1 t2 t3 t4 t5 is e1 e2 e3 e4 e5 =
    five t0 t1 t2 t3 t4 t5 (start_text form (codes "burst")) (satellite_name form b.satellite)
    (moment_text form (codes " hour ") (codes ",\"hour\":") (reading_of (start_of b.hour)))
    (value_text form (codes " moments ") (codes ",\"moments\":") Whole (Some b.moments)) (end_text form) e1 e2
    (e3 ∙ ap (λ (c : Civil). t2 ++ moment_text form (codes " hour ") (codes ",\"hour\":") c) is) e4 e5

pub run-is : (form : Form) (h : HalfRun) (t0 t1 t2 t3 t4 t5 t6 : List ℕ)
    → t1 ≡ t0 ++ start_text form (codes "half-run") → t2 ≡ t1 ++ satellite_name form h.satellite
    → t3 ≡ t2 ++ moment_text form (codes " from ") (codes ",\"from\":") h.run.from
    → t4 ≡ t3 ++ moment_text form (codes " until ") (codes ",\"until\":") h.run.until
    → t5 ≡ t4 ++ value_text form (codes " epochs ") (codes ",\"epochs\":") Whole (Some h.run.epochs) → t6 ≡ t5 ++ end_text form → t6 ≡ t0 ++ run_line form h
unfolding run_line
run-is form h t0 t1 t2 t3 t4 t5 t6 e1 e2 e3 e4 e5 e6 =
    six t0 t1 t2 t3 t4 t5 t6 (start_text form (codes "half-run")) (satellite_name form h.satellite) (moment_text form (codes " from ") (codes ",\"from\":") h.run.from)
    (moment_text form (codes " until ") (codes ",\"until\":") h.run.until) (value_text form (codes " epochs ") (codes ",\"epochs\":") Whole (Some h.run.epochs))
    (end_text form) e1 e2 e3 e4 e5 e6

pub missing-is : (form : Form) (m : MissingCode) (t0 t1 t2 t3 t4 t5 t6 t7 : List ℕ)
    → t1 ≡ t0 ++ start_text form (codes "missing-code") → t2 ≡ t1 ++ satellite_name form m.satellite → t3 ≡ t2 ++ code_name form m.code
    → t4 ≡ t3 ++ moment_text form (codes " from ") (codes ",\"from\":") m.run.from
    → t5 ≡ t4 ++ moment_text form (codes " until ") (codes ",\"until\":") m.run.until
    → t6 ≡ t5 ++ value_text form (codes " epochs ") (codes ",\"epochs\":") Whole (Some m.run.epochs) → t7 ≡ t6 ++ end_text form → t7 ≡ t0 ++ missing_line form m
unfolding missing_line
missing-is form m t0 t1 t2 t3 t4 t5 t6 t7 e1 e2 e3 e4 e5 e6 e7 =
    let start : List ℕ = start_text form (codes "missing-code") in
    let from : List ℕ = moment_text form (codes " from ") (codes ",\"from\":") m.run.from in
    let until : List ℕ = moment_text form (codes " until ") (codes ",\"until\":") m.run.until in
    let epochs : List ℕ = value_text form (codes " epochs ") (codes ",\"epochs\":") Whole (Some m.run.epochs) in
    and-then t0 t6 t7 (((((start ++ satellite_name form m.satellite) ++ code_name form m.code) ++ from) ++ until) ++ epochs) (end_text form)
    (six t0 t1 t2 t3 t4 t5 t6 start (satellite_name form m.satellite) (code_name form m.code) from until epochs e1 e2 e3 e4 e5 e6) e7

pub fall-is : (form : Form) (band : CodeBand) (f : Fall) (number : ℕ) (from until : Civil) (t0 t1 t2 t3 t4 t5 t6 : List ℕ)
    → number ≡ number_of band → from ≡ reading_of (start_of f.from) → until ≡ reading_of (start_of f.until)
    → t1 ≡ t0 ++ start_text form (codes "fall") → t2 ≡ t1 ++ value_text form (codes " band ") (codes "\"band\":") Whole (Some number)
    → t3 ≡ t2 ++ moment_text form (codes " from ") (codes ",\"from\":") from → t4 ≡ t3 ++ moment_text form (codes " until ") (codes ",\"until\":") until
    → t5 ≡ t4 ++ value_text form (codes " mean-strength ") (codes ",\"mean_strength_centidbhz\":") Hundredths (Some f.by) → t6 ≡ t5 ++ end_text form
    → t6 ≡ t0 ++ fall_line form band f
unfolding fall_line
fall-is form band f number from until t0 t1 t2 t3 t4 t5 t6 is_number is_from is_until e1 e2 e3 e4 e5 e6 =
    six t0 t1 t2 t3 t4 t5 t6 (start_text form (codes "fall")) (value_text form (codes " band ") (codes "\"band\":") Whole (Some (number_of band)))
    (moment_text form (codes " from ") (codes ",\"from\":") (reading_of (start_of f.from))) (moment_text form (codes " until ") (codes ",\"until\":") (reading_of (start_of f.until)))
    (value_text form (codes " mean-strength ") (codes ",\"mean_strength_centidbhz\":") Hundredths (Some f.by)) (end_text form) e1
    (e2 ∙ ap (λ (n : ℕ). t1 ++ value_text form (codes " band ") (codes "\"band\":") Whole (Some n)) is_number)
    (e3 ∙ ap (λ (c : Civil). t2 ++ moment_text form (codes " from ") (codes ",\"from\":") c) is_from)
    (e4 ∙ ap (λ (c : Civil). t3 ++ moment_text form (codes " until ") (codes ",\"until\":") c) is_until) e5 e6

pub falls-are : (form : Form) (hours : List HourCounts) (t0 t1 t2 t3 t4 t5 t6 : List ℕ)
    → t1 ≡ t0 ++ fall_part form hours B1 → t2 ≡ t1 ++ fall_part form hours B2 → t3 ≡ t2 ++ fall_part form hours B5
    → t4 ≡ t3 ++ fall_part form hours B6 → t5 ≡ t4 ++ fall_part form hours B7 → t6 ≡ t5 ++ fall_part form hours B8 → t6 ≡ t0 ++ falls_of form hours
unfolding falls_of
falls-are form hours t0 t1 t2 t3 t4 t5 t6 e1 e2 e3 e4 e5 e6 =
    six t0 t1 t2 t3 t4 t5 t6 (fall_part form hours B1) (fall_part form hours B2) (fall_part form hours B5)
    (fall_part form hours B6) (fall_part form hours B7) (fall_part form hours B8) e1 e2 e3 e4 e5 e6

pub listed-is : (form : Form) (n : ListedCounts) (t0 t1 t2 t3 t4 : List ℕ)
    → t1 ≡ t0 ++ value_text form (codes "\nslips-together ") (codes ",\"slips_together\":") Whole (Some n.moments)
    → t2 ≡ t1 ++ value_text form (codes "\nbursts ") (codes ",\"bursts\":") Whole (Some n.bursts)
    → t3 ≡ t2 ++ value_text form (codes "\nhalf-runs ") (codes ",\"half_runs\":") Whole (Some n.runs)
    → t4 ≡ t3 ++ value_text form (codes "\nmissing-codes ") (codes ",\"missing_codes\":") Whole (Some n.missing)
    → t4 ≡ t0 ++ listed_text form n
unfolding listed_text
listed-is form n t0 t1 t2 t3 t4 e1 e2 e3 e4 =
    four t0 t1 t2 t3 t4 (value_text form (codes "\nslips-together ") (codes ",\"slips_together\":") Whole (Some n.moments))
    (value_text form (codes "\nbursts ") (codes ",\"bursts\":") Whole (Some n.bursts))
    (value_text form (codes "\nhalf-runs ") (codes ",\"half_runs\":") Whole (Some n.runs))
    (value_text form (codes "\nmissing-codes ") (codes ",\"missing_codes\":") Whole (Some n.missing)) e1 e2 e3 e4

pub heading-is : (form : Form) (marker : List ℕ) (from until : Civil) (interval : Option ℕ) (satellites : ℕ) (r : RecordCounts) (n : ListedCounts) (s : PassSums) (t0 t1 t2 t3 t4 t5 t6 t7 : List ℕ)
    → t1 ≡ t0 ++ marker_text form marker → t2 ≡ t1 ++ span_text form from until interval r
    → t3 ≡ t2 ++ value_text form (codes "\ngaps ") (codes ",\"gaps\":") Whole (Some n.gaps)
    → t4 ≡ t3 ++ satellites_text form satellites r → t5 ≡ t4 ++ station_text form s
    → t6 ≡ t5 ++ listed_text form n → t7 ≡ t6 ++ end_text form
    → t7 ≡ t0 ++ heading_text form marker from until interval satellites r n s
unfolding heading_text
heading-is form marker from until interval satellites r n s t0 t1 t2 t3 t4 t5 t6 t7 e1 e2 e3 e4 e5 e6 e7 =
    let gaps : List ℕ = value_text form (codes "\ngaps ") (codes ",\"gaps\":") Whole (Some n.gaps) in
    let listed : List ℕ = listed_text form n in
    and-then t0 t6 t7 (((((marker_text form marker ++ span_text form from until interval r) ++ gaps) ++ satellites_text form satellites r) ++ station_text form s) ++ listed) (end_text form)
    (six t0 t1 t2 t3 t4 t5 t6 (marker_text form marker) (span_text form from until interval r) gaps (satellites_text form satellites r) (station_text form s) listed e1 e2 e3 e4 e5 e6) e7
