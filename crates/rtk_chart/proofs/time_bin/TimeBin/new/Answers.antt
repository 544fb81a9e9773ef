use Rattle.std.proofs.Common.{replicate, ap}
use Rattle.rtk_chart.specs.declared.tracking.Tracking.{Tracking}
use Rattle.rtk_chart.specs.declared.time_bin.TimeBin.{TimeBin}
use Rattle.rtk_chart.proofs.time_bin.TimeBin.new.Goals as goal

-- the same satellite 32 times
abbrev all_alike : Tracking → TimeBin
all_alike tracking = record { satellites = replicate 32 tracking }

pub returns : goal.returns
returns c = ap all_alike c.new.ensures
