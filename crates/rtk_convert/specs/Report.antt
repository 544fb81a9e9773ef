-- The report of a list of found frames, newest first: a line for each that is refused, late or in
-- conflict, and the counts.
use Rattle.std.specs.Prelude.{ℕ, ◌==◌, Bool, true, false, ◌&&◌, ◌||◌, List, [], ◌∷◌, ◌++◌, flat_map, codes, Option, None, Some, is_some}
use Rattle.std.specs.List.{list_any}
use Rattle.rtk_frame.specs.Stream.{count_after}
use Rattle.rtk_message.specs.declared.any_fault.AnyFault.{AnyFault}
use Rattle.rtk_message.specs.declared.any_message.AnyMessage.{AnyMessage as Message}
use Rattle.rtk_message.specs.declared.any_message.AnyMessage.TheVariants as any
use Rattle.rtk_message.specs.declared.message.Message.TheVariants.{Obs1004, Arp1005, Arp1006, Msm1074}
use Rattle.rtk_message.specs.declared.system.System.{System}
use Rattle.rtk_message.specs.declared.system.System.TheVariants.{Sbas}
use Rattle.rtk_message.specs.AnyFaultCode.{any_fault_text}
use Rattle.rtk_message.specs.AnyDecoded.{number_of, tow_of}
use Rattle.rtk_obs.specs.SatelliteIndex.{letter_of}
use Rattle.rtk_obs.specs.SbasCells.{is_sbas_number}
use Rattle.rtk_collect.specs.declared.conflicts.AnySatelliteCode.{AnySatelliteCode}
use Rattle.rtk_collect.specs.Arrival.{Arrival, epoch_of, message_of}
use Rattle.rtk_collect.specs.Answer.{Class, LateClass, TakenClass, RepeatClass, ConflictClass, class_of, conflicts_of}
use Rattle.rtk_collect.specs.Signals.{signals}
use Rattle.rtk_convert.specs.FrameClass.{Found, arrivals, system_of}
use Rattle.rtk_convert.specs.declared.frame_class.FrameClass.{FrameClass}
use Rattle.rtk_convert.specs.declared.frame_class.FrameClass.TheVariants.{OtherMessage, Refused, Foreign, Dated}
use Rattle.rtk_convert.specs.ReportText.{link_text, late_line, conflict_line, cell_conflict_line}
use Rattle.rtk_setup.specs.Setup.{SetupView, cells_by, lists_system}
use Rattle.rtk_setup.specs.declared.counts.Counts.{Counts}

-- ---- lines

-- formula
-- as in: link 1 refused M3 1005
abbrev pub refused_line : ℕ → AnyFault → List ℕ
refused_line link fault = link_text link ++ codes " refused " ++ any_fault_text fault ++ 10 ∷ []

-- a line for each cell that conflicts, in the order of the message
abbrev pub cell_lines : ℕ → ℕ → Option ℕ → List AnySatelliteCode → List ℕ
cell_lines link number None cells = []
cell_lines link number (Some e) cells = flat_map (λ c. cell_conflict_line link number e c.satellite c.code) cells

-- the lines of a message with nothing new and something in conflict
abbrev pub conflict_lines : ℕ → ℕ → Option ℕ → List AnySatelliteCode → List ℕ
conflict_lines link number None cells = conflict_line link number
conflict_lines link number (Some e) cells = cell_lines link number (Some e) cells

-- the lines of a message of this class, from its number, its epoch and its cells that conflict
abbrev pub class_lines : ℕ → ℕ → Option ℕ → Class → List AnySatelliteCode → List ℕ
class_lines link number epoch LateClass cells = late_line link number epoch
class_lines link number epoch TakenClass cells = cell_lines link number epoch cells
class_lines link number epoch RepeatClass cells = []
class_lines link number epoch ConflictClass cells = conflict_lines link number epoch cells

-- the class of an arrival after the ones before it, by the cells and the window of the setup
abbrev pub arrival_class : SetupView → Arrival → List Arrival → Class
arrival_class s a before = class_of signals (cells_by s) s.window a before

-- the lines of a found frame, after the arrivals before it
abbrev pub frame_lines : SetupView → ℕ → FrameClass → List Arrival → List ℕ
frame_lines s link OtherMessage before = []
frame_lines s link (Refused fault) before = refused_line link fault
frame_lines s link Foreign before = []
frame_lines s link (Dated a) before =
    class_lines link (number_of (message_of a)) (epoch_of a) (arrival_class s a before) (conflicts_of signals (cells_by s) s.window a before)

-- formula
-- the lines of all found frames, in order
abbrev pub lines : SetupView → List Found → List ℕ
lines s [] = []
lines s (f ∷ before) = lines s before ++ frame_lines s f.link f.class (arrivals before)

-- ---- counts: each stays at its greatest value

abbrev pub no_counts : Counts
no_counts = record { frames = 0; other = 0; refused = 0; foreign = 0; taken = 0; repeat = 0; conflict = 0; late = 0; epochs = 0 }

abbrev pub counted_as : Class → Counts → Counts
counted_as LateClass c = record c { late = count_after c.late }
counted_as TakenClass c = record c { taken = count_after c.taken }
counted_as RepeatClass c = record c { repeat = count_after c.repeat }
counted_as ConflictClass c = record c { conflict = count_after c.conflict }

-- formula
-- the counts after one more frame: it is in exactly one of these seven
abbrev pub counted : SetupView → FrameClass → List Arrival → Counts → Counts
counted s OtherMessage before c = record c { other = count_after c.other }
counted s (Refused fault) before c = record c { refused = count_after c.refused }
counted s Foreign before c = record c { foreign = count_after c.foreign }
counted s (Dated a) before c = counted_as (arrival_class s a before) c

abbrev pub one_frame_more : Counts → Counts
one_frame_more c = record c { frames = count_after c.frames }

-- the counts of all found frames
abbrev pub frame_counts : SetupView → List Found → Counts
frame_counts s [] = no_counts
frame_counts s (f ∷ before) = counted s f.class (arrivals before) (one_frame_more (frame_counts s before))

-- ---- the systems of which a message was taken

abbrev pub is_taken : Class → Bool
is_taken LateClass = false
is_taken TakenClass = true
is_taken RepeatClass = false
is_taken ConflictClass = false

-- an observation of this system
abbrev pub is_of : System → Message → Bool
is_of system m = is_some (tow_of m) && (letter_of (system_of m) == letter_of system)

-- a 1004 with a satellite of SBAS
abbrev pub holds_sbas : Message → Bool
holds_sbas (any.Message (Obs1004 m)) = list_any (λ s. is_sbas_number s.satellite) m.satellites
holds_sbas (any.Message (Arp1005 m)) = false
holds_sbas (any.Message (Arp1006 m)) = false
holds_sbas (any.Message (Msm1074 m)) = false
holds_sbas (any.Msm m) = false
holds_sbas (any.Obs1012 m) = false

-- such a 1004 is an observation of SBAS too, if some code of SBAS is listed
abbrev pub brings_sbas : SetupView → Message → Bool
brings_sbas s m = lists_system s.head.listed Sbas && holds_sbas m

abbrev pub is_of_sbas : Bool → System → Bool
is_of_sbas sbas system = sbas && (letter_of Sbas == letter_of system)

-- a found frame is an observation of this system, and was taken
abbrev pub brings : SetupView → System → FrameClass → List Arrival → Bool
brings s system OtherMessage before = false
brings s system (Refused fault) before = false
brings s system Foreign before = false
brings s system (Dated a) before =
    (is_of system (message_of a) && is_taken (arrival_class s a before))
    || (is_of_sbas (brings_sbas s (message_of a)) system && is_taken (arrival_class s a before))

-- formula
-- an observation of this system was taken
abbrev pub has_taken : SetupView → System → List Found → Bool
has_taken s system [] = false
has_taken s system (f ∷ before) = brings s system f.class (arrivals before) || has_taken s system before
