-- What a conversion represents: a list of found frames.
use Rattle.std.specs.Prelude.{◌≡◌, ◌<◌, ◌≤◌, ◌⊎◌, ℕ, Bool, false, List, [], ◌∷◌, length, Option, None, Some, All, IsTrue}
use Rattle.rtk_message.specs.AnyDecoded.{number_of}
use Rattle.rtk_message.specs.declared.system.System.{System}
use Rattle.rtk_obs.specs.declared.any_code.AnyCode.{AnyCode}
use Rattle.rtk_obs.specs.declared.signal_cells.SignalEntry.{SignalEntry}
use Rattle.rtk_obs.specs.declared.track.Track.{Track}
use Rattle.rtk_obs.specs.AnyCode.{IsSignal}
use Rattle.rtk_obs.specs.Carriers.{IsSlot}
use Rattle.rtk_collect.specs.Arrival.{Arrival, message_of}
use Rattle.rtk_collect.specs.Accepted.{closed}
use Rattle.rtk_collect.specs.Collector.{CollectorView, RepresentsArrivals}
use Rattle.rtk_collect.specs.Signals.{signals}
use Rattle.rtk_convert.specs.declared.frame_class.FrameClass.{FrameClass}
use Rattle.rtk_setup.specs.declared.counts.Counts.{Counts}
use Rattle.rtk_convert.specs.declared.remarks.Remarks.{Remarks}
use Rattle.rtk_convert.specs.FileOfArrivals.{file_so_far}
use Rattle.rtk_convert.specs.FrameClass.{Found, arrivals}
use Rattle.rtk_convert.specs.ClosedEpochs.{ClosedEpochsView, HasClosed}
use Rattle.rtk_convert.specs.LastPhases.{track_at}
use Rattle.rtk_convert.specs.Report.{lines, frame_counts, has_taken}
use Rattle.rtk_setup.specs.Setup.{SetupView, takes, cells_by}
use Rattle.rtk_convert.specs.Slots.{has_slot, is_without_channel, is_of_other_channel, any_tells}
use Rattle.rtk_convert.specs.Systems.{has_system}

pub record ConversionView : Type 0 where
  pub setup : SetupView
  -- the open epochs and the station messages
  pub collector : CollectorView SignalEntry
  -- what is known of the closed epochs
  pub closed_epochs : ClosedEpochsView
  -- the counts of frames
  pub counts : Counts
  -- what the messages tell for the last lines of the report
  pub remarks : Remarks
  -- a call broke off
  pub stopped : Bool

-- the setup takes the messages of these arrivals
abbrev pub AllTaken : SetupView → List Arrival → Type 0
AllTaken s arrivals = All (λ a. IsTrue (takes s (number_of (message_of a)))) arrivals

-- a window of the setup holds what is kept of these arrivals, which the setup takes
pub record HoldsKept (s : SetupView) (w : CollectorView SignalEntry) (arrivals : List Arrival) : Type 0 where
  pub taken : AllTaken s arrivals
  pub window : RepresentsArrivals signals (cells_by s) w arrivals

-- found frames tell this: of which systems a message was taken, and the slots of satellites of GLONASS without phases
abbrev pub HasRemarks : SetupView → Remarks → List Found → Type 0
HasRemarks s r found =
    ((system : System) → has_system r.systems system ≡ has_taken s system found)
    × ((slot : ℕ) → IsSlot slot → has_slot r.other_channels slot ≡ any_tells is_of_other_channel s slot found)
    × ((slot : ℕ) → IsSlot slot → has_slot r.no_channels slot ≡ any_tells is_without_channel s slot found)

-- a conversion represents these found frames: its window holds what is kept of their arrivals; it
-- knows the last phases of the closed epochs, whether the header is written, and how many records
-- are; it has the counts of the frames; and it knows what the frames tell for the last lines
pub record RepresentsFound (s : ConversionView) (found : List Found) : Type 0 where
  pub kept : HoldsKept s.setup s.collector (arrivals found)
  pub closed : HasClosed s.closed_epochs s.setup.head.doppler s.setup.head.listed (closed signals (cells_by s.setup) s.setup.window (arrivals found))
  pub counts : s.counts ≡ frame_counts s.setup found
  pub remarks : HasRemarks s.setup s.remarks found

-- a new conversion with this setup: it has found no frame
pub record IsNewConversion (s : SetupView) (c : ConversionView) : Type 0 where
  pub represents : RepresentsFound c []
  pub same_setup : c.setup ≡ s
  pub going : c.stopped ≡ false
  pub few : length c.collector.sets ≤ s.window

-- the window holds what is kept of some arrivals
abbrev pub HoldsArrivals : SetupView → CollectorView SignalEntry → Type 0
HoldsArrivals s w = (before : List Arrival) × HoldsKept s w before

-- a satellite and code have a last phase only once the window is full, and then of an epoch below
-- all open ones
abbrev pub IsUnder : Option Track → CollectorView SignalEntry → Type 0
IsUnder None w = Unit {0}
IsUnder (Some t) w = (length w.sets ≡ w.places) × All (λ x. t.epoch < x.epoch) w.sets

-- all last phases are of epochs below the window
abbrev pub IsAhead : CollectorView SignalEntry → ClosedEpochsView → Type 0
IsAhead w c = (satellite : ℕ) (code : AnyCode) → IsSignal satellite code → IsUnder (track_at c.tracks satellite code) w

-- the window has as many places as the setup says, and no more epochs than places; and unless a
-- call broke off all last phases are of epochs below it
pub record IsConversionView (s : ConversionView) : Type 0 where
  pub places : s.collector.places ≡ s.setup.window
  pub few : length s.collector.sets ≤ s.collector.places
  pub ahead : s.stopped ≡ false → IsAhead s.collector s.closed_epochs

abbrev pub found_on : ℕ → FrameClass → Found
found_on link f = record { link = link; class = f }

-- a frame adds to the file or to the lines, never to both
abbrev pub AddsToOne : SetupView → Found → List Found → Type 0
AddsToOne s f before = (file_so_far s (arrivals (f ∷ before)) ≡ file_so_far s (arrivals before)) ⊎ (lines s (f ∷ before) ≡ lines s before)
