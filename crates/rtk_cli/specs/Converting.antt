-- The status that `convert` ends with. All numbers are this project's rule.
use Rattle.std.specs.Prelude.{ℕ, Bool, true, false, Result, Ok, Err}
use Rattle.rtk_setup.specs.declared.counts.Counts.{Counts}
use Rattle.rtk_convert.specs.declared.fault.ConvertFault.{ConvertFault}
use Rattle.rtk_convert.specs.declared.fault.ConvertFault.TheVariants.{Setup}

-- table
-- the exit status of a conversion, by its answer and by whether all that it wrote is out: 0 if it
-- was done and all is out, 2 if there are not 1 to 16 links, else 1
abbrev pub status_of : Result Counts ConvertFault → Bool → ℕ
status_of (Ok counts) true = 0
status_of (Ok counts) false = 1
status_of (Err Setup) is_out = 2
status_of (Err fault) is_out = 1
