-- The fault of a command that an error of std is (this project's rule).
use Rattle.std.specs.Prelude.{◌≡◌, ◌≢◌}
use Rattle.std.specs.IoError.{error_kind}
use Rattle.std.specs.declared.io.Error.{Error}
use Rattle.std.specs.declared.io.ErrorKind.TheVariants as kind
use Rattle.rtk_commands.specs.declared.fault.ToolFault.{ToolFault}
use Rattle.rtk_commands.specs.declared.fault.ToolFault.TheVariants.{Input, OutOfMemory}

-- a buffer had no memory, or else a read failed
abbrev pub TellsError : Error → ToolFault → Type 0
TellsError error fault =
    (error_kind error ≡ kind.OutOfMemory → fault ≡ OutOfMemory) × (error_kind error ≢ kind.OutOfMemory → fault ≡ Input)
