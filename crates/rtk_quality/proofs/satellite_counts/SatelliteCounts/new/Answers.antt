use Rattle.std.proofs.Common.{List, replicate, refl, ap}
use Rattle.rtk_quality.specs.Counts.{code_counts_of}
use Rattle.rtk_quality.specs.declared.code_counts.CodeCounts.{CodeCounts}
use Rattle.rtk_quality.proofs.satellite_counts.SatelliteCounts.new.Goals as goal

-- the same counts 16 times
abbrev all_alike : CodeCounts → List CodeCounts
all_alike counts = replicate 16 counts

pub returns : goal.returns
unfolding code_counts_of
returns c = λ interval. record {
  pass = c.new.ensures interval;
  codes = ap all_alike c.new-2.ensures;
  in_passes = refl;
  since_phase = refl;
  last = refl;
  sums = c.none.ensures;
  run = refl;
  hour = refl;
}
