use Rattle.std.proofs.Common.{◌≡◌}
use Rattle.rtk_cut.proofs.KeptFileLemmas.{HasKeptLines}
use Rattle.rtk_cut.proofs.kept_file.put_kept_record.Given as goal

abbrev pub invariant-loop-satellite : goal.invariant-loop-satellite
invariant-loop-satellite l = record {
  lines : HasKeptLines l.kept l.read l.rows l.lines;
  doppler : l.lines.doppler ≡ l.read.form.doppler;
}

abbrev pub decreases-loop-satellite : goal.decreases-loop-satellite
decreases-loop-satellite l = l.rows.count
