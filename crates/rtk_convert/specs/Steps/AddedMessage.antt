-- What an arrival changes in a conversion, apart from the count of all frames.
use Rattle.std.specs.Prelude.{◌≡◌, ℕ, ◌||◌, List, ◌∷◌, Option, None, Result, OnOk, OnErr, IfOk, IfErr, IsTrue}
use Rattle.rtk_frame.specs.Stream.{with_more, TakesPart}
use Rattle.rtk_message.specs.declared.any_message.AnyMessage.{AnyMessage as Message}
use Rattle.rtk_message.specs.declared.system.System.{System}
use Rattle.rtk_message.specs.AnyDecoded.{number_of}
use Rattle.rtk_obs.specs.declared.signal_cells.SignalEntry.{SignalEntry}
use Rattle.rtk_collect.specs.declared.conflicts.AnySatelliteCode.{AnySatelliteCode}
use Rattle.rtk_collect.specs.declared.outcome.Outcome.{Outcome}
use Rattle.rtk_collect.specs.declared.outcome.Outcome.TheVariants.{Taken, Conflict, Repeat, Late}
use Rattle.rtk_collect.specs.EpochSet.{EpochSetView}
use Rattle.rtk_collect.specs.Arrival.{Arrival}
use Rattle.rtk_collect.specs.Accepted.{closed}
use Rattle.rtk_collect.specs.Signals.{signals}
use Rattle.rtk_convert.specs.declared.fault.ConvertFault.{ConvertFault}
use Rattle.rtk_convert.specs.declared.frame_class.FrameClass.TheVariants.{Dated}
use Rattle.rtk_convert.specs.declared.message_class.MessageClass.{MessageClass}
use Rattle.rtk_convert.specs.Failure.{IsFrameFault}
use Rattle.rtk_convert.specs.FileOfArrivals.{file_so_far}
use Rattle.rtk_convert.specs.ClosedEpochs.{HasClosed}
use Rattle.rtk_convert.specs.Epochs.{EpochsView}
use Rattle.rtk_convert.specs.Report.{arrival_class, brings, counted_as, frame_lines}
use Rattle.rtk_convert.specs.Conversion.{ConversionView, HoldsKept}
use Rattle.rtk_setup.specs.Setup.{SetupView, takes, cells_by}
use Rattle.rtk_convert.specs.Systems.{has_system}
use Rattle.rtk_convert.specs.Writing.{Written, WritesRest}
use Rattle.rtk_convert.specs.Steps.OfferLines.{class_named}
use Rattle.rtk_convert.specs.Steps.WritingInPart.{WritesPartOfRest}

-- the epoch that is closed by an arrival with this answer
abbrev pub closed_by : Outcome SignalEntry AnySatelliteCode → Option (EpochSetView SignalEntry)
closed_by Late = None
closed_by (Taken closing) = closing
closed_by Conflict = None
closed_by Repeat = None

-- ---- the epochs

-- the epochs represent these arrivals: the window holds what is kept of them, and the closed epochs are
-- known
pub record RepresentsEpochs (s : SetupView) (e : EpochsView) (before : List Arrival) : Type 0 where
  pub kept : HoldsKept s e.collector before
  pub closed : HasClosed e.closed s.head.doppler s.head.listed (closed signals (cells_by s) s.window before)

-- one more arrival: its class, what the epochs represent after it, and what was written
pub record AddsArrivalAs (s : SetupView) (old : EpochsView) (link : ℕ) (a : Arrival) (class : MessageClass) (before : List Arrival)
    (new : EpochsView) (written_old written_new : Written) : Type 0 where
  pub after : RepresentsEpochs s new (a ∷ before)
  pub is_class : class_named class ≡ arrival_class s a before
  pub out : WritesRest written_old.file written_new.file (file_so_far s before) (file_so_far s (a ∷ before))
  pub log : written_new.report ≡ with_more written_old.report (frame_lines s link (Dated a) before)

-- the call breaks off: a first part of that was written
pub record AddsArrivalPartAs (s : SetupView) (link : ℕ) (a : Arrival) (before : List Arrival) (written_old written_new : Written) : Type 0 where
  pub out : WritesPartOfRest written_old.file written_new.file (file_so_far s before) (file_so_far s (a ∷ before))
  pub log : TakesPart written_old.report written_new.report (frame_lines s link (Dated a) before)

-- a message is added, or the call breaks off at it, whatever arrived before
pub record AddsArrival (s : SetupView) (old : EpochsView) (link : ℕ) (a : Arrival) (result : Result MessageClass ConvertFault) (new : EpochsView)
    (written_old written_new : Written) : Type 0 where
  pub ok : IfOk result (λ class. (before : List Arrival) → RepresentsEpochs s old before → AddsArrivalAs s old link a class before new written_old written_new)
  pub err : OnErr result ((before : List Arrival) → RepresentsEpochs s old before → AddsArrivalPartAs s link a before written_old written_new)
  pub fault : IfErr result IsFrameFault

-- the setup takes a message
abbrev pub IsTakenBy : SetupView → Message → Type 0
IsTakenBy s m = IsTrue (takes s (number_of m))

-- ---- the conversion

-- the epochs of a conversion
abbrev pub epochs_of : ConversionView → EpochsView
epochs_of c = record { collector = c.collector; closed = c.closed_epochs }

-- one more arrival: what the conversion represents after it, and what was written
pub record AddsMessageAs (old : ConversionView) (link : ℕ) (a : Arrival) (before : List Arrival) (new : ConversionView) (written_old written_new : Written) : Type 0 where
  pub after : RepresentsEpochs new.setup (epochs_of new) (a ∷ before)
  pub counts : new.counts ≡ counted_as (arrival_class old.setup a before) old.counts
  pub systems : (system : System) → has_system new.remarks.systems system ≡ (brings old.setup system (Dated a) before || has_system old.remarks.systems system)
  pub other_channels : new.remarks.other_channels ≡ old.remarks.other_channels
  pub no_channels : new.remarks.no_channels ≡ old.remarks.no_channels
  pub out : WritesRest written_old.file written_new.file (file_so_far old.setup before) (file_so_far old.setup (a ∷ before))
  pub log : written_new.report ≡ with_more written_old.report (frame_lines old.setup link (Dated a) before)

-- a message is added so, whatever arrived before
abbrev pub AddsMessage : ConversionView → ℕ → Arrival → ConversionView → Written → Written → Type 0
AddsMessage old link a new written_old written_new =
    (before : List Arrival) → RepresentsEpochs old.setup (epochs_of old) before → AddsMessageAs old link a before new written_old written_new

-- the call breaks off so, whatever arrived before
abbrev pub AddsMessageInPart : ConversionView → ℕ → Arrival → Written → Written → Type 0
AddsMessageInPart old link a written_old written_new =
    (before : List Arrival) → RepresentsEpochs old.setup (epochs_of old) before → AddsArrivalPartAs old.setup link a before written_old written_new

-- a message is added, or the call breaks off at it
pub record HandlesMessage {T : Type 0} (old : ConversionView) (link : ℕ) (a : Arrival) (result : Result T ConvertFault)
    (new : ConversionView) (written_old written_new : Written) : Type 0 where
  pub ok : OnOk result (AddsMessage old link a new written_old written_new)
  pub err : OnErr result (AddsMessageInPart old link a written_old written_new)
  pub fault : IfErr result IsFrameFault
