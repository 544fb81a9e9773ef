use Rattle.rtk_quality.proofs.SystemLemmas.{HasReadRows}
use Rattle.rtk_quality.proofs.system_counts.read_rows.Given as goal

abbrev pub invariant-loop-satellite : goal.invariant-loop-satellite
invariant-loop-satellite l = HasReadRows l.system l.read l.rows l.own.items

abbrev pub decreases-loop-satellite : goal.decreases-loop-satellite
decreases-loop-satellite l = l.rows.count
