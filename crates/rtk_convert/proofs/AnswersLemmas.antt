-- What the answer of a window says of the lines, the counts and the closed epochs.
use Rattle.std.proofs.Common.{◌≡◌, ℕ, List, ◌∷◌, ◌++◌, Option, refl, ap, sym, ◌∙◌}
use Rattle.std.specs.Prelude.{option_to_list}
use Rattle.rtk_message.specs.AnyDecoded.{number_of}
use Rattle.rtk_collect.specs.Signals.{signals}
use Rattle.rtk_setup.specs.Setup.{SetupView, cells_by}
use Rattle.rtk_obs.specs.declared.signal_cells.SignalEntry.{SignalEntry}
use Rattle.rtk_collect.specs.declared.conflicts.AnySatelliteCode.{AnySatelliteCode}
use Rattle.rtk_collect.specs.declared.outcome.Outcome.{Outcome}
use Rattle.rtk_collect.specs.declared.outcome.Outcome.TheVariants.{Taken, Conflict, Repeat, Late}
use Rattle.rtk_collect.specs.Arrival.{Arrival, epoch_of, message_of}
use Rattle.rtk_collect.specs.Accepted.{closed}
use Rattle.rtk_collect.specs.Answer.{Class, conflicts_of, IsRightAnswer}
use Rattle.rtk_convert.specs.declared.frame_class.FrameClass.TheVariants.{Dated}
use Rattle.rtk_convert.specs.Report.{arrival_class, class_lines, frame_lines, cell_lines, conflict_lines}
use Rattle.rtk_convert.specs.Steps.OfferLines.{class_of_offer, offer_lines}
use Rattle.rtk_convert.specs.Steps.AddedMessage.{closed_by}

-- ---- lines and counts

-- the class of the answer is the class of the arrival
pub answer-class : (s : SetupView) (a : Arrival) (before : List Arrival) (offer : Outcome SignalEntry AnySatelliteCode) (listed : List AnySatelliteCode) → IsRightAnswer signals (cells_by s) s.window a before offer listed
    → arrival_class s a before ≡ class_of_offer offer
answer-class s a before Late listed h = h.0
answer-class s a before (Taken closing) listed h = h.0
answer-class s a before Conflict listed h = h.0
answer-class s a before Repeat listed h = h.0

-- a message that is late or a repeat has no line of a conflict
answer-conflicts : (s : SetupView) (link number : ℕ) (epoch : Option ℕ) (a : Arrival) (before : List Arrival) (offer : Outcome SignalEntry AnySatelliteCode) (listed : List AnySatelliteCode)
    → IsRightAnswer signals (cells_by s) s.window a before offer listed
    → class_lines link number epoch (class_of_offer offer) (conflicts_of signals (cells_by s) s.window a before) ≡ offer_lines link number epoch offer listed
answer-conflicts s link number epoch a before Late listed h = refl
answer-conflicts s link number epoch a before (Taken closing) listed h = ap (cell_lines link number epoch) (sym h.1)
answer-conflicts s link number epoch a before Conflict listed h = ap (conflict_lines link number epoch) (sym h.1)
answer-conflicts s link number epoch a before Repeat listed h = refl

pub answer-lines : (s : SetupView) (link : ℕ) (a : Arrival) (before : List Arrival) (offer : Outcome SignalEntry AnySatelliteCode) (listed : List AnySatelliteCode)
    → IsRightAnswer signals (cells_by s) s.window a before offer listed
    → frame_lines s link (Dated a) before ≡ offer_lines link (number_of (message_of a)) (epoch_of a) offer listed
answer-lines s link a before offer listed h =
    ap (λ (c : Class). class_lines link (number_of (message_of a)) (epoch_of a) c (conflicts_of signals (cells_by s) s.window a before)) (answer-class s a before offer listed h)
    ∙ answer-conflicts s link (number_of (message_of a)) (epoch_of a) a before offer listed h

-- ---- closed epochs

pub answer-closed : (s : SetupView) (a : Arrival) (before : List Arrival) (offer : Outcome SignalEntry AnySatelliteCode) (listed : List AnySatelliteCode) → IsRightAnswer signals (cells_by s) s.window a before offer listed
    → closed signals (cells_by s) s.window (a ∷ before) ≡ option_to_list (closed_by offer) ++ closed signals (cells_by s) s.window before
answer-closed s a before Late listed h = h.2
answer-closed s a before (Taken closing) listed h = h.2
answer-closed s a before Conflict listed h = h.2
answer-closed s a before Repeat listed h = h.2
