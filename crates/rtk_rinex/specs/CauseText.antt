-- How texts show the cause of a fault (this project's rule).
use Rattle.std.specs.Prelude.{ℕ, List, codes}
use Rattle.rtk_rinex.specs.declared.check_fault.Cause.{Cause}
use Rattle.rtk_rinex.specs.declared.check_fault.Cause.TheVariants.{HeaderLine, Columns, Value, Order, Truncated, OutOfMemory}

-- table
-- the code and the name of a cause
abbrev pub cause_text : Cause → List ℕ
cause_text HeaderLine = codes "C1 HeaderLine"
cause_text Columns = codes "C2 Columns"
cause_text Value = codes "C3 Value"
cause_text Order = codes "C4 Order"
cause_text Truncated = codes "C5 Truncated"
cause_text OutOfMemory = codes "C6 OutOfMemory"
