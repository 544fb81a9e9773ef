-- The lines of captures whose 1013 tell other leap seconds than a conversion has, and of leap seconds that were found (this
-- project's rule).
use Rattle.std.specs.Prelude.{ℕ, ◌==◌, Bool, ◌&&◌, nat_le, List, [], ◌++◌, codes, decimal, Option, None, Some, if◌then◌else◌}
use Rattle.std.specs.Borrow.{Bor}
use Rattle.rtk_rinex.specs.MixedHead.{GlonassView}
use Rattle.rtk_survey.specs.ClockLines.{leap_seconds_by}
use Rattle.rtk_survey.specs.declared.survey.CaptureSurvey.{CaptureSurvey}
use Rattle.rtk_survey.specs.declared.system_tellings.LeapRange.{LeapRange}
use Rattle.rtk_captures.specs.CaptureNames.{capture_name, lines_by}
use Rattle.rtk_captures.specs.Lists.{name_line}
use Rattle.rtk_captures.specs.declared.span_line.DatedSpan.{DatedSpan}
use Rattle.rtk_systems.specs.FoundSeconds.{leap_in_capture}
use Rattle.rtk_plan.specs.declared.planning.Plan.{Plan}

-- ---- leap seconds that 1013 tell

-- the leap seconds that date GLONASS at a moment: those that a setup has, else those of the table
abbrev pub seconds_dating : Option ℕ → ℕ → ℕ
seconds_dating None t = leap_seconds_by t
seconds_dating (Some given) t = given

-- those of the first and the last epoch
abbrev pub seconds_of_file : Option ℕ → DatedSpan → LeapRange
seconds_of_file given s = record { least = seconds_dating given s.from; greatest = seconds_dating given s.until }

-- the 1013 of a capture tell no other leap seconds than these
abbrev pub is_range_within : LeapRange → LeapRange → Bool
is_range_within dating r = nat_le dating.least r.least && nat_le r.greatest dating.greatest

-- formula
abbrev pub to_text : ℕ → List ℕ
to_text greatest = codes " to " ++ decimal greatest

-- formula
-- the greatest of leap seconds, behind the least, if it is another one
abbrev pub greatest_text : LeapRange → List ℕ
greatest_text r = if r.least == r.greatest then [] else to_text r.greatest

-- formula
-- what the 1013 of a capture tell
unfoldable pub leap_words_of : List ℕ → LeapRange → List ℕ
leap_words_of name r = codes " other-leap-seconds " ++ decimal r.least ++ greatest_text r ++ name_line (codes " by 1013 in ") name

-- the line of a capture, if a 1013 tells other leap seconds than these
abbrev pub other_leap_range : LeapRange → List ℕ → LeapRange → List ℕ
other_leap_range dating name r = if is_range_within dating r then [] else leap_words_of name r

abbrev pub other_leap_line : LeapRange → List ℕ → Option LeapRange → List ℕ
other_leap_line dating name None = []
other_leap_line dating name (Some r) = other_leap_range dating name r

-- the line of the capture at a place
abbrev pub other_leap_at : List (Bor (List ℕ)) → ℕ → LeapRange → ℕ → CaptureSurvey → List ℕ
other_leap_at names station dating at s = other_leap_line dating (capture_name names at) (leap_in_capture station s)

abbrev pub all_other_leap : List (Bor (List ℕ)) → ℕ → List CaptureSurvey → LeapRange → List ℕ
all_other_leap names station ss dating = lines_by (other_leap_at names station dating) 0 ss

-- those of captures of which GLONASS is converted
abbrev pub other_leap_lines : List (Bor (List ℕ)) → ℕ → List CaptureSurvey → LeapRange → Option GlonassView → List ℕ
other_leap_lines names station ss dating None = []
other_leap_lines names station ss dating (Some g) = all_other_leap names station ss dating

-- ---- leap seconds that were found

-- formula
-- leap seconds by which the clocks of GLONASS are right, and those of the table not
abbrev pub found_leap_words : ℕ → List ℕ
found_leap_words seconds = codes " leap-seconds " ++ decimal seconds ++ codes ": by the clocks of GLONASS\n"

-- those of a conversion of GLONASS, if they were found
abbrev pub found_leap_line : Bool → Option GlonassView → List ℕ
found_leap_line are_found None = []
found_leap_line are_found (Some g) = if are_found then found_leap_words g.leap_seconds else []

-- ---- both

abbrev pub leap_lines : List (Bor (List ℕ)) → List CaptureSurvey → Plan → List ℕ
leap_lines names ss plan =
    other_leap_lines names plan.setup.station ss (seconds_of_file plan.setup.leap_seconds plan.span) plan.setup.head.glonass
    ++ found_leap_line plan.are_seconds_found plan.setup.head.glonass
