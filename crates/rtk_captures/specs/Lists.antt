-- The lines that list what a refusal or a warning speaks of (this project's rule).
use Rattle.std.specs.Prelude.{ℕ, ℤ, ◌+◌, ◌/◌, ◌%◌, ◌==◌, unsigned_abs, List, [], ◌∷◌, ◌++◌, length, nat_lt, min, codes, decimal, Option, None, Some, if◌then◌else◌}
use Rattle.std.specs.Fmt.{sign_text}
use Rattle.std.specs.Int.{is_negative}
use Rattle.rtk_message.specs.ShellText.{sh_quoted}
use Rattle.rtk_survey.specs.declared.survey.CaptureSurvey.{CaptureSurvey}
use Rattle.rtk_survey.specs.Contents.{station_in}
use Rattle.rtk_captures.specs.StationCaptures.{epochs_heard, is_observed_in}
use Rattle.rtk_obs.specs.declared.time.TheConstants.{LAST_MS}
use Rattle.rtk_survey.specs.declared.placing.Placed.{Placed}
use Rattle.rtk_survey.specs.declared.reference_point.ReferencePoint.{ReferencePoint}
use Rattle.rtk_survey.specs.declared.tellings.Told.{Told}
use Rattle.rtk_captures.specs.TimeText.{time_text}
use Rattle.rtk_captures.specs.SpanLine.{date_message_text}
use Rattle.rtk_survey.specs.Look.{look_name}
use Rattle.rtk_survey.specs.declared.look.Look.{Look}
use Rattle.rtk_survey.specs.declared.look.Look.TheVariants.{Unknown, Empty, Gzip, Bzip2, Xz, Zip}

abbrev pub line_end : List ℕ
line_end = 10 ∷ []

-- formula
-- words and the name of a capture
abbrev pub words_and_name : List ℕ → List ℕ → List ℕ
words_and_name words name = words ++ sh_quoted name

abbrev pub name_line : List ℕ → List ℕ → List ℕ
name_line words name = words_and_name words name ++ line_end

-- formula
-- a capture that is dated near the others
abbrev pub undated_line : List ℕ → List ℕ
undated_line name = words_and_name (codes " undated ") name ++ codes ": dated near the others\n"

-- table
-- the command that unpacks a file that looks so, before its name
abbrev pub unpacker : Look → List ℕ
unpacker Gzip = codes "gzip -dc"
unpacker Bzip2 = codes "bzip2 -dc"
unpacker Xz = codes "xz -dc"
unpacker Zip = codes "unzip -p"
unpacker look = []

-- formula
-- a command that unpacks a file of this name to another one
abbrev pub unpacking_by : List ℕ → List ℕ → List ℕ
unpacking_by command name =
    codes "; unpack it: " ++ command ++ words_and_name (codes " ") name ++ words_and_name (codes " >") name ++ codes ".rtcm"

-- formula
-- the same, if there is such a command
abbrev pub unpacking : List ℕ → List ℕ → List ℕ
unpacking command name = if length command == 0 then [] else unpacking_by command name

-- formula
-- what a capture looks like, and how it is unpacked
abbrev pub looks_like : List ℕ → Look → List ℕ
looks_like name look = codes " looks like " ++ look_name look ++ unpacking (unpacker look) name

-- formula
-- the same of a capture without a frame, if it is known
abbrev pub look_text : List ℕ → Option Look → List ℕ
look_text name None = []
look_text name (Some Unknown) = []
look_text name (Some Empty) = codes " is empty"
look_text name (Some look) = looks_like name look

abbrev pub capture_line : List ℕ → List ℕ → Option Look → List ℕ
capture_line words name look = words_and_name words name ++ look_text name look ++ line_end

-- formula
-- a first epoch that a message tells, if it can be written
unfoldable pub date_line : Told → List ℕ → List ℕ
date_line t name =
    if nat_lt LAST_MS t.first then [] else codes " " ++ time_text t.first ++ date_message_text t.message ++ name_line (codes " in ") name

-- formula
-- a number of epochs
abbrev pub epochs_text : ℕ → List ℕ
epochs_text epochs = codes ": " ++ decimal epochs ++ codes " epochs\n"

-- formula
-- a station with observations in a capture
abbrev pub station_line : CaptureSurvey → ℕ → List ℕ → List ℕ
station_line s station name =
    if is_observed_in station s then
    codes " station " ++ decimal station ++ words_and_name (codes " in ") name ++ epochs_text (epochs_heard (station_in station s))
    else []

-- formula
-- a date that is to come, and its capture, if the date can be written
unfoldable pub to_come_line : Told → List ℕ → List ℕ
to_come_line t name =
    if nat_lt LAST_MS t.first then [] else
    codes " " ++ time_text t.first ++ date_message_text t.message ++ words_and_name (codes " in ") name
    ++ codes ": it is after the time of making\n"

-- formula
-- a stray epoch, and its capture
abbrev pub stray_line : ℕ → List ℕ → List ℕ
stray_line epoch name = words_and_name (codes " stray ") name ++ codes " " ++ time_text epoch ++ line_end

-- formula
-- a command that takes a part of a capture to a file, which is named after the capture
abbrev pub part_command : List ℕ → ℕ → List ℕ → List ℕ → List ℕ
part_command command bytes name end =
    command ++ decimal bytes ++ words_and_name (codes " ") name ++ words_and_name (codes " >") name ++ end

-- formula
-- the byte at which the second date of a capture begins, and the commands that part it there
abbrev pub parting_text : List ℕ → ℕ → List ℕ
parting_text name byte =
    words_and_name (codes " ") name ++ codes ": the second date begins at byte " ++ decimal byte
    ++ codes "; these commands part it there:\n"
    ++ part_command (codes "head -c ") byte name (codes ".1\n") ++ part_command (codes "tail -c +") (min (byte + 1) 18_446_744_073_709_551_615) name (codes ".2\n")

-- ---- what a refusal lists

-- formula
-- the last of epochs, or that it is later than it can be written, as that of a clock that goes on for more than a week
abbrev pub until_text : ℕ → List ℕ
until_text until = if nat_lt LAST_MS until then codes "later" else time_text until

-- formula
-- the first and the last of epochs
abbrev pub from_until : ℕ → ℕ → List ℕ
from_until from until = codes " " ++ time_text from ++ codes " until " ++ until_text until

-- formula
-- the epochs of a capture, if the first one can be written
abbrev pub reach_line : Placed → ℕ → List ℕ → List ℕ
reach_line p epochs name =
    if nat_lt LAST_MS p.from then [] else
    from_until p.from p.until ++ words_and_name (codes " in ") name ++ epochs_text epochs

-- formula
-- a point and four digits: the part of a whole metre, of a number of 0.0001 m
abbrev pub point_and_decimals : ℕ → List ℕ
point_and_decimals n = 46 ∷ (48 + n / 1000 % 10) ∷ (48 + n / 100 % 10) ∷ (48 + n / 10 % 10) ∷ (48 + n % 10) ∷ []

-- formula
-- a length in 0.0001 m, in metres
unfoldable pub metres_text : ℕ → List ℕ
metres_text n = decimal (n / 10_000) ++ point_and_decimals n

-- formula
-- a coordinate in 0.0001 m, in metres
unfoldable pub coordinate_text : ℤ → List ℕ
coordinate_text x = sign_text (is_negative x) ++ metres_text (unsigned_abs x)

-- formula
abbrev pub coordinate_after_blank : ℤ → List ℕ
coordinate_after_blank x = codes " " ++ coordinate_text x

abbrev pub coordinates : ReferencePoint → List ℕ
coordinates p = coordinate_after_blank p.x ++ coordinate_after_blank p.y ++ coordinate_after_blank p.z

-- formula
-- the position that a capture tells
abbrev pub position_line : ReferencePoint → List ℕ → List ℕ
position_line p name = codes " position" ++ coordinates p ++ name_line (codes " in ") name
