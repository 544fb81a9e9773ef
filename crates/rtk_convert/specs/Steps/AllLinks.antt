-- The open links of a converter are closed, one after another.
use Rattle.std.specs.Prelude.{◌≡◌, ℕ, false, length, Result, OnOk, OnErr, IfErr}
use Rattle.rtk_convert.specs.declared.fault.ConvertFault.{ConvertFault}
use Rattle.rtk_convert.specs.Failure.{IsFrameFault}
use Rattle.rtk_convert.specs.History.{History}
use Rattle.rtk_convert.specs.Converter.{ConverterView, RepresentsHistory, WritesOn, IsAfterClosingAll, BreaksOffClosing}
use Rattle.rtk_convert.specs.Writing.{Written}

-- all open links were closed, whatever the history was
abbrev pub ClosesAllLinks : ConverterView → ConverterView → Written → Written → Type 0
ClosesAllLinks old new written_old written_new = (h : History) → RepresentsHistory old h
    → (last : History) × IsAfterClosingAll old.conversion.setup h (length h.links) last × RepresentsHistory new last
    × WritesOn old.conversion.setup h.found last.found written_old written_new

abbrev pub ClosesAllLinksInPart : ConverterView → Written → Written → Type 0
ClosesAllLinksInPart old written_old written_new = (h : History) → RepresentsHistory old h
    → (link : ℕ) × BreaksOffClosing old.conversion.setup h link written_old written_new

-- the open links of a converter are closed, or the call breaks off closing one of them
pub record ClosesLinks {T : Type 0} (old : ConverterView) (result : Result T ConvertFault) (new : ConverterView)
    (written_old written_new : Written) : Type 0 where
  pub same_setup : new.conversion.setup ≡ old.conversion.setup
  pub going : OnOk result (new.conversion.stopped ≡ false)
  pub ok : OnOk result (ClosesAllLinks old new written_old written_new)
  pub err : OnErr result (ClosesAllLinksInPart old written_old written_new)
  pub fault : IfErr result IsFrameFault
