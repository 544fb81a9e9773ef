-- Why the steps of a call break off.
use Rattle.std.specs.Prelude.{ℕ, Result, IfErr}
use Rattle.rtk_convert.specs.declared.fault.ConvertFault.{ConvertFault}
use Rattle.rtk_convert.specs.declared.fault.ConvertFault.TheVariants.{OutOfMemory, Write, Read}
use Rattle.rtk_convert.specs.Failure.{NamesFailedWrites}
use Rattle.rtk_convert.specs.declared.fault.Stream.TheVariants.{Out}

-- memory was refused, or a write to the file failed
abbrev pub IsOutFault : ConvertFault → Type 0
IsOutFault OutOfMemory = Unit {0}
IsOutFault (Write Out) = Unit {0}
IsOutFault _ = ⊥

-- the file is named as failed exactly if a write to it failed; else memory was refused
pub record NamesFailedFile {T : Type 0} (result : Result T ConvertFault) (before after : ℕ) : Type 0 where
  pub file_failed : NamesFailedWrites Out result before after
  pub fault : IfErr result IsOutFault

-- memory was refused, or a read or a write failed
abbrev pub IsReadFault : ConvertFault → Type 0
IsReadFault OutOfMemory = Unit {0}
IsReadFault (Write stream) = Unit {0}
IsReadFault (Read link) = Unit {0}
IsReadFault _ = ⊥
