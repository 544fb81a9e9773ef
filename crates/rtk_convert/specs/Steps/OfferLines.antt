-- The class and the lines of an answer of the collector.
use Rattle.std.specs.Prelude.{ℕ, List, Option}
use Rattle.rtk_collect.specs.declared.conflicts.AnySatelliteCode.{AnySatelliteCode}
use Rattle.rtk_collect.specs.declared.outcome.Outcome.{Outcome}
use Rattle.rtk_collect.specs.declared.outcome.Outcome.TheVariants.{Taken, Conflict, Repeat, Late}
use Rattle.rtk_collect.specs.Answer.{Class, LateClass, TakenClass, RepeatClass, ConflictClass}
use Rattle.rtk_convert.specs.declared.message_class.MessageClass.{MessageClass}
use Rattle.rtk_convert.specs.declared.message_class.MessageClass.TheVariants as class
use Rattle.rtk_convert.specs.Report.{class_lines}
use Rattle.rtk_obs.specs.declared.signal_cells.SignalEntry.{SignalEntry}

-- the class of an answer
abbrev pub class_of_offer : Outcome SignalEntry AnySatelliteCode → Class
class_of_offer Late = LateClass
class_of_offer (Taken closing) = TakenClass
class_of_offer Repeat = RepeatClass
class_of_offer Conflict = ConflictClass

-- table
-- the class of this name
abbrev pub class_named : MessageClass → Class
class_named class.Late = LateClass
class_named class.Taken = TakenClass
class_named class.Repeat = RepeatClass
class_named class.Conflict = ConflictClass

-- the lines of a message with this answer and these cells in conflict
abbrev pub offer_lines : ℕ → ℕ → Option ℕ → Outcome SignalEntry AnySatelliteCode → List AnySatelliteCode → List ℕ
offer_lines link number epoch offer listed = class_lines link number epoch (class_of_offer offer) listed
