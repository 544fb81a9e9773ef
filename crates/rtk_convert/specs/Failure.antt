-- Why a call breaks off, and which failed writes it names.
use Rattle.std.specs.Prelude.{◌≡◌, ℕ, Result, Ok, Err}
use Rattle.rtk_frame.specs.Stream.{CountRises}
use Rattle.rtk_convert.specs.declared.fault.ConvertFault.{ConvertFault}
use Rattle.rtk_convert.specs.declared.fault.ConvertFault.TheVariants.{Setup, OutOfMemory, Write, Read, Endless}
use Rattle.rtk_convert.specs.declared.fault.Stream.{Stream}
use Rattle.rtk_convert.specs.declared.fault.Stream.TheVariants.{Out, Log}

-- memory was refused, or a write failed
abbrev pub IsFrameFault : ConvertFault → Type 0
IsFrameFault OutOfMemory = Unit {0}
IsFrameFault (Write stream) = Unit {0}
IsFrameFault _ = ⊥

-- memory was refused, a read or a write failed, or a link did not end
abbrev pub IsReadingFault : ConvertFault → Type 0
IsReadingFault OutOfMemory = Unit {0}
IsReadingFault (Write stream) = Unit {0}
IsReadingFault (Read link) = Unit {0}
IsReadingFault Endless = Unit {0}
IsReadingFault _ = ⊥

-- the number of readers is not 1 to 16, or one of these faults
abbrev pub IsRunFault : ConvertFault → Type 0
IsRunFault Setup = Unit {0}
IsRunFault fault = IsReadingFault fault

-- a call had this fault: the count of a stream's failed writes has risen if the fault names the
-- stream, else it is unchanged
abbrev pub FailsWrites : Stream → ConvertFault → ℕ → ℕ → Type 0
FailsWrites Out (Write Out) before after = CountRises before after
FailsWrites Log (Write Log) before after = CountRises before after
FailsWrites stream fault before after = after ≡ before

-- a stream is named as failed exactly if one of its writes failed in this call
abbrev pub NamesFailedWrites : {T : Type 0} → Stream → Result T ConvertFault → ℕ → ℕ → Type 0
NamesFailedWrites stream (Ok answer) before after = after ≡ before
NamesFailedWrites stream (Err fault) before after = FailsWrites stream fault before after
