use Rattle.std.proofs.Common.{◌≡◌, length}
use Rattle.rtk_cut.proofs.MixedFileLemmas.{HasMadeLines}
use Rattle.rtk_cut.proofs.mixed_file.text_with_marks.Given as goal

abbrev pub invariant-loop-satellite : goal.invariant-loop-satellite
invariant-loop-satellite l = record {
  size : length l.marks ≡ length l.fn.marks;
  room : length l.shown ≡ 16;
  so_far : HasMadeLines l.fn.marks l.marks l.read l.rows l.lines;
  doppler : l.lines.doppler ≡ l.read.form.doppler;
}

abbrev pub decreases-loop-satellite : goal.decreases-loop-satellite
decreases-loop-satellite l = l.rows.count
