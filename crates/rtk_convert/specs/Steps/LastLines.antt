-- The last lines of a report, by what the messages tell for them.
use Rattle.std.specs.Prelude.{ℕ, ◌&&◌, not, List, [], ◌∷◌, ◌++◌, if◌then◌else◌}
use Rattle.rtk_message.specs.declared.system.System.{System}
use Rattle.rtk_message.specs.declared.system.System.TheVariants.{Gps, Glonass, Galileo, Beidou, Qzss, Sbas, Navic}
use Rattle.rtk_obs.specs.SatelliteIndex.{letter_of}
use Rattle.rtk_setup.specs.declared.counts.Counts.{Counts}
use Rattle.rtk_convert.specs.declared.remarks.Remarks.{Remarks}
use Rattle.rtk_convert.specs.declared.systems.Systems.{Systems}
use Rattle.rtk_convert.specs.ReportText.{missing_line, channels_text}
use Rattle.rtk_setup.specs.Counts.{count_lines}
use Rattle.rtk_setup.specs.Setup.{SetupView, is_of_gps, lists_system}
use Rattle.rtk_convert.specs.Slots.{has_slot}
use Rattle.rtk_convert.specs.Systems.{has_system}

-- the letter of a listed system that the set does not have, after a blank
abbrev pub missing_letter_by : SetupView → Systems → System → List ℕ
missing_letter_by s systems system =
    if lists_system s.head.listed system && not (has_system systems system) then 32 ∷ letter_of system ∷ [] else []

-- the letters of all these systems, in the order G R E C J S I
abbrev pub missing_letters_by : SetupView → Systems → List ℕ
missing_letters_by s systems =
    missing_letter_by s systems Gps ++ missing_letter_by s systems Glonass ++ missing_letter_by s systems Galileo
    ++ missing_letter_by s systems Beidou ++ missing_letter_by s systems Qzss ++ missing_letter_by s systems Sbas
    ++ missing_letter_by s systems Navic

-- the line of these systems, if a code of another system than GPS is listed
abbrev pub missing_lines_by : SetupView → Systems → List ℕ
missing_lines_by s systems = if is_of_gps s then [] else missing_line (missing_letters_by s systems)

-- the lines of the slots of these sets, if a code of GLONASS is listed
abbrev pub unphased_lines_by : SetupView → Remarks → List ℕ
unphased_lines_by s r = if lists_system s.head.listed Glonass then channels_text (has_slot r.other_channels) (has_slot r.no_channels) else []

-- the lines of slots, and that of the systems without a message
abbrev pub remark_lines_by : SetupView → Remarks → List ℕ
remark_lines_by s r = unphased_lines_by s r ++ missing_lines_by s r.systems

-- the last lines: those of slots and systems, and the counts
abbrev pub last_lines : SetupView → Remarks → Counts → List ℕ
last_lines s r counts = remark_lines_by s r ++ count_lines counts
