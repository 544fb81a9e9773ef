use Rattle.std.proofs.Common.{◌≡◌, ◌≤◌, ◌+◌, ◌*◌, false, length}
use Rattle.rtk_survey.specs.Summary.{HasRisenBy}
use Rattle.rtk_survey.proofs.FramePlaceLemmas.{HasLooked}
use Rattle.rtk_survey.proofs.frame_place.place_of_frame.Given as goal

abbrev pub invariant-reads : goal.invariant-reads
invariant-reads g l = record {
  so_far : HasLooked (g.R.Source.given l.fn.reader) (g.R.Source.given l.reader) l.fn.before l.looking.before l.looking.fed l.scanner.pending;
  is_open : l.scanner.ended ≡ false;
  room : length l.piece.items ≡ 32768;
  fed : l.looking.fed ≤ 32768 * l._made;
  waits : length l.scanner.pending ≤ l.looking.fed;
  failures : g.R.Source.failures l.reader ≡ g.R.Source.failures l.fn.reader;
  most : g.R.Source.calls l.reader ≤ g.R.Source.calls l.fn.reader + l._made;
  made : HasRisenBy (g.R.Source.calls l.fn.reader) (g.R.Source.calls l.reader) l._made;
}
