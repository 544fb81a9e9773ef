-- The epochs that are left are closed, and a conversion ends.
use Rattle.std.specs.Prelude.{◌≡◌, ◌⊎◌, ℕ, ◌<◌, List, ◌∷◌, ◌++◌, Option, All, Result, OnOk, OnErr, IfOk, IfErr}
use Rattle.rtk_obs.specs.declared.signal_cells.SignalEntry.{SignalEntry}
use Rattle.rtk_collect.specs.Accepted.{kept}
use Rattle.rtk_collect.specs.Arrival.{Arrival}
use Rattle.rtk_collect.specs.EpochSet.{EpochSetView}
use Rattle.rtk_collect.specs.Signals.{signals}
use Rattle.rtk_rinex.specs.Header.{PositionView}
use Rattle.rtk_setup.specs.declared.counts.Counts.{Counts}
use Rattle.rtk_convert.specs.declared.fault.ConvertFault.{ConvertFault}
use Rattle.rtk_convert.specs.Failure.{IsFrameFault}
use Rattle.rtk_convert.specs.Steps.ClosedText.{closed_text, closing}
use Rattle.rtk_convert.specs.FileOfArrivals.{kept_file, file_so_far}
use Rattle.rtk_convert.specs.FrameClass.{Found, arrivals}
use Rattle.rtk_convert.specs.Steps.ShownCells.{AllBelow}
use Rattle.rtk_convert.specs.ClosedEpochs.{ClosedEpochsView, HasClosed}
use Rattle.rtk_convert.specs.Report.{lines}
use Rattle.rtk_convert.specs.Epochs.{EpochsView}
use Rattle.rtk_convert.specs.File.{record_count}
use Rattle.rtk_setup.specs.Setup.{SetupView, cells_by}
use Rattle.rtk_convert.specs.Steps.AddedMessage.{RepresentsEpochs}
use Rattle.rtk_convert.specs.Conversion.{ConversionView, RepresentsFound}
use Rattle.rtk_convert.specs.Writing.{Written, WritesRest}
use Rattle.rtk_convert.specs.Steps.WritingInPart.{WritesPartOfRest, PutsText}
use Rattle.rtk_convert.specs.Finish.{all_counts, report_of}

-- all last phases are of epochs below each of these
abbrev pub AllAbove : ClosedEpochsView → List (EpochSetView SignalEntry) → Type 0
AllAbove c epochs = All (λ e. AllBelow c.tracks e.epoch) epochs

-- an epoch closes, whatever epochs were closed before: it is closed then, and its record was written,
-- and before the first record the header
pub record ClosesEpoch {T : Type 0} (s : SetupView) (site : PositionView) (old : ClosedEpochsView) (e : EpochSetView SignalEntry)
    (result : Result T ConvertFault) (new : ClosedEpochsView) (out_old out_new : Option (List ℕ)) : Type 0 where
  pub follows : OnOk result ((below : List (EpochSetView SignalEntry)) → HasClosed old s.head.doppler s.head.listed below → HasClosed new s.head.doppler s.head.listed (e ∷ below))
  pub puts : (below : List (EpochSetView SignalEntry)) → HasClosed old s.head.doppler s.head.listed below → PutsText result out_old out_new (closing s site e below)
  pub later : OnOk result ((later : ℕ) → e.epoch < later → AllBelow new.tracks later)

-- these epochs were closed, after the lower epochs `below`
pub record ClosesEpochsAs (s : SetupView) (site : PositionView) (old : ClosedEpochsView) (epochs below : List (EpochSetView SignalEntry)) (new : ClosedEpochsView) (out_old out_new : Option (List ℕ)) : Type 0 where
  pub follows : HasClosed new s.head.doppler s.head.listed (epochs ++ below)
  pub out : WritesRest out_old out_new (closed_text s site below) (closed_text s site (epochs ++ below))

-- these epochs were closed so, whatever epochs were closed before
abbrev pub ClosesEpochs : SetupView → PositionView → ClosedEpochsView → List (EpochSetView SignalEntry) → ClosedEpochsView → Option (List ℕ) → Option (List ℕ) → Type 0
ClosesEpochs s site old epochs new out_old out_new =
    (below : List (EpochSetView SignalEntry)) → HasClosed old s.head.doppler s.head.listed below → ClosesEpochsAs s site old epochs below new out_old out_new

-- a first part of what these epochs add was written, whatever epochs were closed before
abbrev pub ClosesEpochsInPart : SetupView → PositionView → ClosedEpochsView → List (EpochSetView SignalEntry) → Option (List ℕ) → Option (List ℕ) → Type 0
ClosesEpochsInPart s site old epochs out_old out_new =
    (below : List (EpochSetView SignalEntry)) → HasClosed old s.head.doppler s.head.listed below → WritesPartOfRest out_old out_new (closed_text s site below) (closed_text s site (epochs ++ below))

-- these epochs are closed, or the call breaks off at one of them
pub record ClosesRemaining {T : Type 0} (s : SetupView) (site : PositionView) (old : ClosedEpochsView) (epochs : List (EpochSetView SignalEntry))
    (result : Result T ConvertFault) (new : ClosedEpochsView) (out_old out_new : Option (List ℕ)) : Type 0 where
  pub ok : OnOk result (ClosesEpochs s site old epochs new out_old out_new)
  pub err : OnErr result (ClosesEpochsInPart s site old epochs out_old out_new)

-- the epochs end, whatever arrivals they represent: the rest of the file was written, and this is the count of
-- its records; or the call breaks off, and a first part of the rest was written
pub record EndsEpochs (s : SetupView) (e : EpochsView) (result : Result ℕ ConvertFault) (out_old out_new : Option (List ℕ)) : Type 0 where
  pub ok : IfOk result (λ count. (before : List Arrival) → RepresentsEpochs s e before
      → (count ≡ record_count s.head.doppler s.head.listed (kept signals (cells_by s) s.window before)) × WritesRest out_old out_new (file_so_far s before) (kept_file s before))
  pub err : OnErr result ((before : List Arrival) → RepresentsEpochs s e before → WritesPartOfRest out_old out_new (file_so_far s before) (kept_file s before))
  pub fault : IfErr result IsFrameFault

-- the end: the rest of the file and of the report was written, and these are the counts
pub record FinishesConversionAs (old : ConversionView) (found : List Found) (counts : Counts) (written_old written_new : Written) : Type 0 where
  pub counts_are : counts ≡ all_counts old.setup found
  pub out : WritesRest written_old.file written_new.file (file_so_far old.setup (arrivals found)) (kept_file old.setup (arrivals found))
  pub log : WritesRest written_old.report written_new.report (lines old.setup found) (report_of old.setup found)

abbrev pub FinishesConversion : ConversionView → Counts → Written → Written → Type 0
FinishesConversion old counts written_old written_new = (found : List Found) → RepresentsFound old found → FinishesConversionAs old found counts written_old written_new

-- the end breaks off: a first part of the rest was written, and of the report nothing unless the
-- file is whole
pub record FinishesConversionPartAs (old : ConversionView) (found : List Found) (written_old written_new : Written) : Type 0 where
  pub out : WritesPartOfRest written_old.file written_new.file (file_so_far old.setup (arrivals found)) (kept_file old.setup (arrivals found))
  pub log : WritesPartOfRest written_old.report written_new.report (lines old.setup found) (report_of old.setup found)
  pub counts_last : (written_new.report ≡ written_old.report)
      ⊎ WritesRest written_old.file written_new.file (file_so_far old.setup (arrivals found)) (kept_file old.setup (arrivals found))

abbrev pub FinishesConversionInPart : ConversionView → Written → Written → Type 0
FinishesConversionInPart old written_old written_new = (found : List Found) → RepresentsFound old found → FinishesConversionPartAs old found written_old written_new

-- a conversion ends, or its end breaks off
pub record EndsConversion (old : ConversionView) (result : Result Counts ConvertFault) (written_old written_new : Written) : Type 0 where
  pub ok : IfOk result (λ counts. FinishesConversion old counts written_old written_new)
  pub err : OnErr result (FinishesConversionInPart old written_old written_new)
  pub fault : IfErr result IsFrameFault
