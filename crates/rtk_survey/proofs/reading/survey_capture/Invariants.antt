use Rattle.std.proofs.Common.{◌≡◌, ◌≤◌, ◌+◌, false, length}
use Rattle.rtk_survey.specs.Summary.{HasRisenBy}
use Rattle.rtk_survey.proofs.ReadLemmas.{HasRead}
use Rattle.rtk_survey.proofs.reading.survey_capture.Given as goal

abbrev pub invariant-reads : goal.invariant-reads
invariant-reads g l = record {
  so_far : HasRead l.fn.target (g.R.Source.given l.fn.reader) (g.R.Source.given l.reader) l.scanner.pending l.bytes l.head.items l.contents;
  is_open : l.scanner.ended ≡ false;
  room : length l.piece.items ≡ 32768;
  failures : g.R.Source.failures l.reader ≡ g.R.Source.failures l.fn.reader;
  most : g.R.Source.calls l.reader ≤ g.R.Source.calls l.fn.reader + l._made;
  made : HasRisenBy (g.R.Source.calls l.fn.reader) (g.R.Source.calls l.reader) l._made;
}
