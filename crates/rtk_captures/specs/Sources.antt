-- By what the epochs of captures are dated (this project's rule).
use Rattle.std.specs.Prelude.{ℕ, ◌==◌, List, [], ◌∷◌, Option, None, Some, if◌then◌else◌}
use Rattle.rtk_survey.specs.declared.date_message.DateMessage.{DateMessage}
use Rattle.rtk_survey.specs.declared.date_message.DateMessage.TheVariants.{Utc, Ephemeris, OtherEphemeris}
use Rattle.rtk_survey.specs.declared.placing.Placed.{Placed}
use Rattle.rtk_survey.specs.declared.tellings.Told.{Told}
use Rattle.rtk_captures.specs.Reach.{moment_named}
use Rattle.rtk_captures.specs.declared.reach.Base.{Base}
use Rattle.rtk_captures.specs.declared.reach.Base.TheVariants.{Given, Told as ByCaptures}
use Rattle.rtk_captures.specs.declared.reach.NamedBy.{NamedBy}
use Rattle.rtk_captures.specs.declared.reach.NamedBy.TheVariants.{Own, Week, Day, Any}
use Rattle.rtk_captures.specs.declared.span_line.DateSource.{DateSource}
use Rattle.rtk_captures.specs.declared.span_line.DateSource.TheVariants.{Words, Station, OtherStation, Ephemerides, OtherEphemerides}
use Rattle.rtk_captures.specs.declared.span_line.DatedSpan.{DatedSpan}
use Rattle.rtk_captures.specs.declared.station_capture.StationCapture.{StationCapture}

-- by what a message dates this station
abbrev pub source_of_message : DateMessage → ℕ → DateSource
source_of_message (Utc d) station = if d.station == station then Station d.number else OtherStation d.number d.station
source_of_message (Ephemeris e) station = Ephemerides
source_of_message (OtherEphemeris w) station = OtherEphemerides w.number

-- the message that told this moment, if one did
abbrev pub message_at : ℕ → Option Told → Option DateMessage
message_at moment None = None
message_at moment (Some t) = if t.first == moment then Some t.message else None

abbrev pub or_message : Option DateMessage → Option DateMessage → Option DateMessage
or_message None other = other
or_message (Some m) other = Some m

-- the first message that told this first epoch, if none before them did
abbrev pub first_message : Option DateMessage → ℕ → List StationCapture → Option DateMessage
first_message found least [] = found
first_message found least (c ∷ cs) = first_message (or_message found (message_at least c.told)) least cs

-- the first of such messages that names this moment, in a capture without an epoch
abbrev pub first_of_moments : NamedBy → Option DateMessage → ℕ → List StationCapture → Option DateMessage
first_of_moments named found least [] = found
first_of_moments named found least (c ∷ cs) = first_of_moments named (or_message found (message_at least (moment_named named c))) least cs

-- the first one that counts: messages of the station before 1019, these before messages of other stations, and these before
-- 1042, 1045 and 1046
abbrev pub message_that_names : Option DateMessage → ℕ → List StationCapture → Option DateMessage
message_that_names found least cs =
    first_of_moments Any (first_of_moments Day (first_of_moments Week (first_of_moments Own found least cs) least cs) least cs) least cs

abbrev pub source_if_any : Option DateMessage → ℕ → DateSource
source_if_any None station = Words
source_if_any (Some m) station = source_of_message m station

-- by what captures are dated: the message that told the least first epoch, or else the one that names the least
-- moment
abbrev pub source_of : List StationCapture → Base → ℕ → DateSource
source_of cs (Given near) station = Words
source_of cs (ByCaptures least) station = source_if_any (message_that_names (first_message None least cs) least cs) station

-- the first and the last epoch of captures with this reach, and by what they are dated
abbrev pub dated_span_of : List StationCapture → Base → ℕ → Placed → DatedSpan
dated_span_of cs base station reach = record { from = reach.from; until = reach.until; source = source_of cs base station }
