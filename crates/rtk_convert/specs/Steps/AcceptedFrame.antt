-- What one frame adds to a conversion, and at which frames a call may break off.
use Rattle.std.specs.Prelude.{ℕ, List, ◌∷◌, Option, true, ◌≡◌, Result, OnOk, OnErr, IfOk, IfErr}
use Rattle.rtk_convert.specs.declared.fault.ConvertFault.{ConvertFault}
use Rattle.rtk_convert.specs.declared.frame_class.FrameClass.{FrameClass}
use Rattle.rtk_convert.specs.declared.frame_class.FrameClass.TheVariants.{OtherMessage, Refused, Foreign, Dated}
use Rattle.rtk_convert.specs.Failure.{IsFrameFault}
use Rattle.rtk_convert.specs.FileOfArrivals.{file_so_far}
use Rattle.rtk_convert.specs.FrameClass.{IsClassOfPayload, Found, arrivals}
use Rattle.rtk_convert.specs.Outcome.{KeepsWindow}
use Rattle.rtk_convert.specs.Report.{lines}
use Rattle.rtk_setup.specs.Setup.{SetupView}
use Rattle.rtk_convert.specs.Writing.{Written}
use Rattle.rtk_convert.specs.Converter.{WritesOn}
use Rattle.rtk_convert.specs.Steps.WritingInPart.{WritesPartOfRest}
use Rattle.rtk_convert.specs.Conversion.{ConversionView, RepresentsFound, IsAhead, found_on, AddsToOne}
use Rattle.rtk_convert.specs.History.{epoch_found}

-- a frame of this class comes on a link, after the frames `before`: the conversion then represents
-- all of them, what the frame adds to the file and to the lines was written, and it adds to one of
-- the two at most
pub record AcceptsFrameAs (old : ConversionView) (link : ℕ) (f : FrameClass) (before : List Found) (new : ConversionView) (written_old written_new : Written) : Type 0 where
  pub represents : RepresentsFound new (found_on link f ∷ before)
  pub writes : WritesOn old.setup before (found_on link f ∷ before) written_old written_new
  pub one : AddsToOne old.setup (found_on link f) before

-- the call breaks off: a first part of that was written
pub record BreaksOffAtFrameAs (old : ConversionView) (link : ℕ) (f : FrameClass) (before : List Found) (written_old written_new : Written) : Type 0 where
  pub out : WritesPartOfRest written_old.file written_new.file (file_so_far old.setup (arrivals before)) (file_so_far old.setup (arrivals (found_on link f ∷ before)))
  pub log : WritesPartOfRest written_old.report written_new.report (lines old.setup before) (lines old.setup (found_on link f ∷ before))
  pub one : AddsToOne old.setup (found_on link f) before

-- a frame with this payload is accepted so, whatever was found before
abbrev pub AcceptsFrame : ConversionView → ℕ → List ℕ → ConversionView → Written → Written → Type 0
AcceptsFrame old link payload new written_old written_new = (before : List Found) → RepresentsFound old before
    → (f : FrameClass) × IsClassOfPayload old.setup payload f × AcceptsFrameAs old link f before new written_old written_new

-- the call breaks off so, whatever was found before
abbrev pub BreaksOffAtFrame : ConversionView → ℕ → List ℕ → Written → Written → Type 0
BreaksOffAtFrame old link payload written_old written_new = (before : List Found) → RepresentsFound old before
    → (f : FrameClass) × IsClassOfPayload old.setup payload f × BreaksOffAtFrameAs old link f before written_old written_new

-- a call may break off at a frame of this class; a message of another number or station takes no
-- memory and writes nothing
abbrev pub MayBreakOff : FrameClass → Type 0
MayBreakOff OtherMessage = ⊥
MayBreakOff (Refused fault) = Unit {0}
MayBreakOff Foreign = ⊥
MayBreakOff (Dated a) = Unit {0}

-- the payload has a class at which a call may break off
abbrev pub HasCause : SetupView → List ℕ → Type 0
HasCause s payload = (f : FrameClass) × IsClassOfPayload s payload f × MayBreakOff f

-- the observation epoch in the payload of a frame; `None` if it holds none
abbrev pub IsEpochIn : SetupView → List ℕ → Option ℕ → Type 0
IsEpochIn s payload epoch = (f : FrameClass) × IsClassOfPayload s payload f × (epoch ≡ epoch_found f)

-- a call is under way: the conversion counts as stopped until the call is done, and all last phases
-- are of epochs below the window
pub record IsUnderWay (c : ConversionView) : Type 0 where
  pub stopped : c.stopped ≡ true
  pub ahead : IsAhead c.collector c.closed_epochs

-- the call is still under way after a step of it, unless this breaks off
pub record StaysUnderWay {T : Type 0} (old : ConversionView) (result : Result T ConvertFault) (new : ConversionView) : Type 0 where
  pub keeps : KeepsWindow old new
  pub stopped : new.stopped ≡ true
  pub ahead : OnOk result (IsAhead new.collector new.closed_epochs)

-- a payload is accepted, and the answer is its epoch; or the call breaks off at it, which has a cause
pub record HandlesPayload (old : ConversionView) (link : ℕ) (payload : List ℕ) (result : Result (Option ℕ) ConvertFault)
    (new : ConversionView) (written_old written_new : Written) : Type 0 where
  pub epoch : IfOk result (IsEpochIn old.setup payload)
  pub ok : OnOk result (AcceptsFrame old link payload new written_old written_new)
  pub err : OnErr result (BreaksOffAtFrame old link payload written_old written_new)
  pub fault : IfErr result IsFrameFault
  pub cause : OnErr result (HasCause old.setup payload)
