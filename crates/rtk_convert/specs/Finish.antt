-- The end of a conversion.
use Rattle.std.specs.Prelude.{ℕ, ◌&&◌, not, List, [], ◌∷◌, ◌++◌, if◌then◌else◌}
use Rattle.rtk_message.specs.declared.system.System.{System}
use Rattle.rtk_message.specs.declared.system.System.TheVariants.{Gps, Glonass, Galileo, Beidou, Qzss, Sbas, Navic}
use Rattle.rtk_obs.specs.SatelliteIndex.{letter_of}
use Rattle.rtk_collect.specs.Accepted.{kept}
use Rattle.rtk_collect.specs.Signals.{signals}
use Rattle.rtk_setup.specs.declared.counts.Counts.{Counts}
use Rattle.rtk_convert.specs.File.{record_count}
use Rattle.rtk_convert.specs.FrameClass.{Found, arrivals}
use Rattle.rtk_convert.specs.Report.{lines, frame_counts, has_taken}
use Rattle.rtk_convert.specs.ReportText.{missing_line, channels_text}
use Rattle.rtk_setup.specs.Counts.{count_lines}
use Rattle.rtk_setup.specs.Setup.{SetupView, is_of_gps, lists_system, cells_by}
use Rattle.rtk_convert.specs.Slots.{is_without_channel, is_of_other_channel, any_tells}

-- the counts of all found frames, and the count of the records of the file
abbrev pub all_counts : SetupView → List Found → Counts
all_counts s found = record (frame_counts s found) { epochs = record_count s.head.doppler s.head.listed (kept signals (cells_by s) s.window (arrivals found)) }

-- the letter of a listed system of which no message was taken, after a blank
abbrev pub missing_letter : SetupView → List Found → System → List ℕ
missing_letter s found system =
    if lists_system s.head.listed system && not (has_taken s system found) then 32 ∷ letter_of system ∷ [] else []

-- the letters of all these systems, in the order G R E C J S I
abbrev pub missing_letters : SetupView → List Found → List ℕ
missing_letters s found =
    missing_letter s found Gps ++ missing_letter s found Glonass ++ missing_letter s found Galileo ++ missing_letter s found Beidou
    ++ missing_letter s found Qzss ++ missing_letter s found Sbas ++ missing_letter s found Navic

-- formula
-- the line of these systems, if a code of another system than GPS is listed
abbrev pub missing_lines : SetupView → List Found → List ℕ
missing_lines s found = if is_of_gps s then [] else missing_line (missing_letters s found)

-- formula
-- the lines of the slots whose satellites have no phases, if a code of GLONASS is listed: first those of which some dated message
-- tells another channel, then those that have satellites and no channel
abbrev pub unphased_lines : SetupView → List Found → List ℕ
unphased_lines s found =
    if lists_system s.head.listed Glonass then channels_text (λ slot. any_tells is_of_other_channel s slot found) (λ slot. any_tells is_without_channel s slot found)
    else []

-- the lines between those of the found frames and the counts: those of slots, and that of the systems without a message
abbrev pub remark_lines : SetupView → List Found → List ℕ
remark_lines s found = unphased_lines s found ++ missing_lines s found

-- the report of all found frames: their lines, those of slots and systems, then the counts
abbrev pub report_of : SetupView → List Found → List ℕ
report_of s found = lines s found ++ (remark_lines s found ++ count_lines (all_counts s found))
