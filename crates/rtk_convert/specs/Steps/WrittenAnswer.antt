-- What comes of the answer to a message is written: the record of the epoch that it closes, and its lines.
use Rattle.std.specs.Prelude.{◌≡◌, ℕ, ◌<◌, List, [], ◌++◌, Option, None, Some, option_to_list, option_map, Result, OnOk, IfErr, Bool}
use Rattle.rtk_obs.specs.declared.any_code.AnyCode.{AnyCode}
use Rattle.rtk_obs.specs.declared.signal_cells.SignalEntry.{SignalEntry}
use Rattle.rtk_collect.specs.Arrival.{message_of_1005, message_of_1006}
use Rattle.rtk_collect.specs.Collector.{CollectorView}
use Rattle.rtk_collect.specs.EpochSet.{EpochSetView}
use Rattle.rtk_rinex.specs.Header.{PositionView}
use Rattle.rtk_convert.specs.declared.fault.ConvertFault.{ConvertFault}
use Rattle.rtk_convert.specs.ClosedEpochs.{ClosedEpochsView, HasClosed}
use Rattle.rtk_convert.specs.Epochs.{EpochsView}
use Rattle.rtk_convert.specs.Failure.{IsFrameFault}
use Rattle.rtk_convert.specs.FileOfArrivals.{site_of_stations}
use Rattle.rtk_setup.specs.Setup.{SetupView}
use Rattle.rtk_convert.specs.Writing.{Written}
use Rattle.rtk_convert.specs.Steps.ClosedText.{closing}
use Rattle.rtk_convert.specs.Steps.ShownCells.{AllBelow}
use Rattle.rtk_convert.specs.Steps.WritingInPart.{PutsText}

-- an epoch that closes is above all last phases
abbrev pub ClosesAbove : ClosedEpochsView → Option (EpochSetView SignalEntry) → Type 0
ClosesAbove c None = Unit {0}
ClosesAbove c (Some set) = AllBelow c.tracks set.epoch

-- the position by the station messages of a window
abbrev pub site_of_window : CollectorView SignalEntry → PositionView
site_of_window w = site_of_stations (option_map message_of_1005 w.arp1005) (option_map message_of_1006 w.arp1006)

-- what the closing of an epoch adds to the file, if one closes
abbrev pub closing_if : SetupView → PositionView → Option (EpochSetView SignalEntry) → List (EpochSetView SignalEntry) → List ℕ
closing_if s site None below = []
closing_if s site (Some set) below = closing s site set below

-- an epoch that closes is closed then, whatever epochs were closed before
abbrev pub ClosesMore : Bool → List AnyCode → ClosedEpochsView → Option (EpochSetView SignalEntry) → ClosedEpochsView → Type 0
ClosesMore doppler listed old set new = (below : List (EpochSetView SignalEntry)) → HasClosed old doppler listed below → HasClosed new doppler listed (option_to_list set ++ below)

-- all last phases are of epochs below each later one than the epoch that closes, or as they were
abbrev pub KeepsBelow : ClosedEpochsView → Option (EpochSetView SignalEntry) → ClosedEpochsView → Type 0
KeepsBelow old None new = new ≡ old
KeepsBelow old (Some set) new = (later : ℕ) → set.epoch < later → AllBelow new.tracks later

-- the record of the epoch that closes, if one does, and then these lines were written, or a first part of them
pub record WritesAnswer {T : Type 0} (s : SetupView) (old : EpochsView) (set : Option (EpochSetView SignalEntry)) (lines : List ℕ)
    (result : Result T ConvertFault) (new : EpochsView) (written_old written_new : Written) : Type 0 where
  pub closes : OnOk result (ClosesMore s.head.doppler s.head.listed old.closed set new.closed)
  pub below : OnOk result (KeepsBelow old.closed set new.closed)
  pub file : (below : List (EpochSetView SignalEntry)) → HasClosed old.closed s.head.doppler s.head.listed below
      → PutsText result written_old.file written_new.file (closing_if s (site_of_window old.collector) set below)
  pub report : PutsText result written_old.report written_new.report lines
  pub fault : IfErr result IsFrameFault
