-- What the frames that one link finds do to a conversion, one after another.
use Rattle.std.specs.Prelude.{◌≡◌, ℕ, true, false, List, Option, Result, OnOk, OnErr, IfErr}
use Rattle.rtk_convert.specs.declared.fault.ConvertFault.{ConvertFault}
use Rattle.rtk_convert.specs.Converter.{WritesOn, BreaksOffAt}
use Rattle.rtk_convert.specs.Failure.{IsFrameFault}
use Rattle.rtk_convert.specs.FrameClass.{Found}
use Rattle.rtk_convert.specs.History.{Finds, newest_on}
use Rattle.rtk_convert.specs.Conversion.{ConversionView, RepresentsFound}
use Rattle.rtk_convert.specs.Outcome.{KeepsWindow}
use Rattle.rtk_convert.specs.Writing.{Written}

-- frames with these payloads come on a link, after the frames `before`: the conversion then
-- represents all of them, the link has the newest epoch that came on it, and what they add to the
-- file and to the lines was written
pub record AddsFramesAs (old : ConversionView) (link : ℕ) (payloads : List (List ℕ)) (before after : List Found) (new : ConversionView)
    (newest_old newest_new : Option ℕ) (written_old written_new : Written) : Type 0 where
  pub finds : Finds old.setup link payloads before after
  pub represents : RepresentsFound new after
  pub newest : newest_old ≡ newest_on link before → newest_new ≡ newest_on link after
  pub writes : WritesOn old.setup before after written_old written_new

-- frames with these payloads come so, whatever was found before
abbrev pub AddsFrames : ConversionView → ℕ → List (List ℕ) → ConversionView → Option ℕ → Option ℕ → Written → Written → Type 0
AddsFrames old link payloads new newest_old newest_new written_old written_new = (before : List Found) → RepresentsFound old before
    → (after : List Found) × AddsFramesAs old link payloads before after new newest_old newest_new written_old written_new

-- a call breaks off at one of these frames
abbrev pub AddsFramesInPart : ConversionView → ℕ → List (List ℕ) → Written → Written → Type 0
AddsFramesInPart old link payloads written_old written_new = (before : List Found) → RepresentsFound old before
    → BreaksOffAt old.setup link payloads before written_old written_new

-- a link takes these frames, or the call breaks off at one of them, and then the conversion is stopped
pub record TakesFrames {T : Type 0} (old : ConversionView) (link : ℕ) (payloads : List (List ℕ)) (result : Result T ConvertFault)
    (new : ConversionView) (newest_old newest_new : Option ℕ) (written_old written_new : Written) : Type 0 where
  pub keeps : KeepsWindow old new
  pub going : OnOk result (new.stopped ≡ false)
  pub halts : OnErr result (new.stopped ≡ true)
  pub ok : OnOk result (AddsFrames old link payloads new newest_old newest_new written_old written_new)
  pub err : OnErr result (AddsFramesInPart old link payloads written_old written_new)
  pub fault : IfErr result IsFrameFault
