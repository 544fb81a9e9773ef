-- The lines of a code, of a satellite and of a pass, and what stands for them in JSON (this project's rule).
use Rattle.std.specs.Prelude.{ℕ, List, ◌++◌, codes, Some}
use Rattle.rtk_obs.specs.declared.any_code.AnyCode.{AnyCode}
use Rattle.rtk_message.specs.declared.system.System.{System}
use Rattle.rtk_message.specs.declared.system.System.TheVariants.{Gps, Glonass, Galileo, Beidou, Qzss, Sbas, Navic}
use Rattle.rtk_obs.specs.AnyCode.{system_of, name_of, text_of}
use Rattle.rtk_obs.specs.SatelliteIndex.{index_name}
use Rattle.rtk_quality.specs.Counts.{percent_tenths, phases_per_slip, mean_hundredths}
use Rattle.rtk_quality.specs.Forms.{in_form, value_text, moment_text, name_text, start_text, end_text}
use Rattle.rtk_quality.specs.declared.form.Form.{Form}
use Rattle.rtk_quality.specs.declared.form.Decimals.TheVariants.{Whole, Tenths, Hundredths, Thousandths}
use Rattle.rtk_quality.specs.declared.code_counts.CodeCounts.{CodeCounts}
use Rattle.rtk_quality.specs.declared.code_numbers.CodeNumbers.{CodeNumbers}
use Rattle.rtk_quality.specs.declared.code_numbers.PerSlip.{PerSlip}
use Rattle.rtk_quality.specs.declared.code_numbers.PerSlip.TheVariants.{NoPhase, NoneLost, Each}
use Rattle.rtk_quality.specs.declared.pass_sums.PassSums.{PassSums}
use Rattle.rtk_quality.specs.declared.satellite_counts.PassCounts.{PassCounts}

-- formula
-- phases, and of how many that could be there
unfoldable pub phases_text : Form → CodeNumbers → List ℕ
phases_text form n =
    value_text form (codes " phases ") (codes ",\"phases\":") Whole (Some n.counts.phases)
    ++ value_text form (codes " of ") (codes ",\"possible\":") Whole (Some n.possible)
    ++ value_text form (codes " percent ") (codes ",\"percent_tenths\":") Tenths (Some (percent_tenths n.counts.phases n.possible))

-- formula
-- on how many of the satellites
unfoldable pub having_text : Form → ℕ → ℕ → List ℕ
having_text form satellites tracked =
    value_text form (codes " satellites ") (codes ",\"satellites\":") Whole (Some satellites)
    ++ value_text form (codes " of ") (codes ",\"tracked\":") Whole (Some tracked)

-- table
-- phases for each slip: a word in a line, if there is no phase or no slip, and null in JSON
unfoldable pub per_slip_text : Form → PerSlip → List ℕ
per_slip_text form NoPhase = in_form form (codes " phases-per-slip no-phase") (codes ",\"phases_per_slip\":null")
per_slip_text form NoneLost = in_form form (codes " phases-per-slip none-lost") (codes ",\"phases_per_slip\":null")
per_slip_text form (Each n) = value_text form (codes " phases-per-slip ") (codes ",\"phases_per_slip\":") Whole (Some n)

-- formula
-- ranges without a phase; slips, returns, rises, half cycles; phases for each slip
unfoldable pub locks_text : Form → CodeCounts → List ℕ
locks_text form c =
    value_text form (codes " ranges-only ") (codes ",\"ranges_only\":") Whole (Some c.ranges)
    ++ value_text form (codes " slips ") (codes ",\"slips\":") Whole (Some c.slips)
    ++ value_text form (codes " returns ") (codes ",\"returns\":") Whole (Some c.returns)
    ++ value_text form (codes " rises ") (codes ",\"rises\":") Whole (Some c.rises)
    ++ value_text form (codes " half-cycles ") (codes ",\"half_cycles\":") Whole (Some c.halves)
    ++ per_slip_text form (phases_per_slip c.phases c.slips)

-- formula
-- strengths in dB-Hz: the least one, their mean, and the greatest one
unfoldable pub strengths_text : Form → CodeCounts → List ℕ
strengths_text form c =
    value_text form (codes " least-strength ") (codes ",\"least_strength_millidbhz\":") Thousandths c.least
    ++ value_text form (codes " mean-strength ") (codes ",\"mean_strength_centidbhz\":") Hundredths (mean_hundredths c.strength_sum c.strengths)
    ++ value_text form (codes " greatest-strength ") (codes ",\"greatest_strength_millidbhz\":") Thousandths c.greatest

-- locks and strengths, up to the end of their line
unfoldable pub counts_text : Form → CodeCounts → List ℕ
counts_text form c = locks_text form c ++ strengths_text form c ++ end_text form

-- a code behind the satellite that has it
unfoldable pub code_name : Form → AnyCode → List ℕ
code_name form code = name_text form (codes ",\"code\":\"") (name_of code)

-- table
-- a code without a satellite: two characters are one of GPS, and three begin with the letter of the system
abbrev pub title_in : System → AnyCode → List ℕ
title_in Gps code = name_of code
title_in Glonass code = text_of code
title_in Galileo code = text_of code
title_in Beidou code = text_of code
title_in Qzss code = text_of code
title_in Sbas code = text_of code
title_in Navic code = text_of code

unfoldable pub title_text : Form → AnyCode → List ℕ
title_text form code = name_text form (codes "\"code\":\"") (title_in (system_of code) code)

-- formula
-- a satellite, as in G05 (RINEX 3.05, section 3.5)
unfoldable pub satellite_name : Form → ℕ → List ℕ
satellite_name form satellite = name_text form (codes "\"satellite\":\"") (index_name satellite)

-- the line of a code over all satellites that have it, of so many that are tracked
unfoldable pub code_line : Form → AnyCode → ℕ → CodeNumbers → List ℕ
code_line form code tracked n =
    start_text form (codes "code") ++ title_text form code ++ phases_text form n ++ having_text form n.satellites tracked ++ counts_text form n.counts

-- the line of a code that a satellite has
unfoldable pub satellite_line : Form → ℕ → AnyCode → CodeNumbers → List ℕ
satellite_line form satellite code n =
    start_text form (codes "satellite") ++ satellite_name form satellite ++ code_name form code ++ phases_text form n ++ counts_text form n.counts

-- the line of a code of the file of which a satellite has no phase
unfoldable pub never_line : Form → ℕ → AnyCode → List ℕ
never_line form satellite code =
    start_text form (codes "never") ++ satellite_name form satellite ++ code_name form code ++ end_text form

-- formula
-- phases, slips and the moments at which they are, and outages with their time in seconds
unfoldable pub sums_text : Form → PassSums → List ℕ
sums_text form s =
    value_text form (codes " phases ") (codes ",\"phases\":") Whole (Some s.phases)
    ++ value_text form (codes " slips ") (codes ",\"slips\":") Whole (Some s.slips)
    ++ value_text form (codes " moments ") (codes ",\"moments\":") Whole (Some s.moments)
    ++ value_text form (codes " outages ") (codes ",\"outages\":") Whole (Some s.outages)
    ++ value_text form (codes " outage-time ") (codes ",\"outage_time_ms\":") Thousandths (Some s.outage_ms)

-- the line of all codes of a satellite
unfoldable pub tracked_line : Form → ℕ → PassSums → List ℕ
tracked_line form satellite s = start_text form (codes "tracked") ++ satellite_name form satellite ++ sums_text form s ++ end_text form

-- the line of a pass
unfoldable pub pass_line : Form → ℕ → PassCounts → List ℕ
pass_line form satellite p =
    start_text form (codes "pass") ++ satellite_name form satellite
    ++ moment_text form (codes " from ") (codes ",\"from\":") p.from ++ moment_text form (codes " until ") (codes ",\"until\":") p.until
    ++ sums_text form p.sums ++ end_text form
