use Rattle.std.proofs.Common.{◌≡◌, ◌+◌, ◌≤◌, List, length}
use Rattle.std.specs.Prelude.{sum_by}
use Rattle.rtk_convert.specs.Converter.{RepresentsHistory}
use Rattle.rtk_convert.specs.History.{History}
use Rattle.rtk_convert.specs.ReadSteps.{HasRead, HasCalled, SameFailures}
use Rattle.rtk_convert.specs.ReadHistory.{Read, AreAtEnd}
use Rattle.rtk_convert.specs.Writing.{written}
use Rattle.rtk_convert.proofs.runs.read_all.Given as goal

abbrev pub invariant-reads : goal.invariant-reads
invariant-reads g l = record {
  so_far : (reads : List Read) × (h : History)
      × HasRead g.R.Source.given l.fn.converter.conversion.setup l.fn.sources l.sources reads h (written (g.O.Sink.taken l.fn.out) (g.L.Sink.taken l.fn.log)) (written (g.O.Sink.taken l.out) (g.L.Sink.taken l.log))
      × RepresentsHistory l.converter h × (length reads ≡ l._made) × AreAtEnd g.R.Source.is_at_end l.sources h;
  same_setup : l.converter.conversion.setup ≡ l.fn.converter.conversion.setup;
  room : length l.buf ≡ 512;
  made : sum_by g.R.Source.calls l.sources ≤ sum_by g.R.Source.calls l.fn.sources + l._made;
  called : HasCalled g.R.Source.calls l.fn.sources l.sources l._made;
  reads_same : SameFailures g.R.Source.failures l.fn.sources l.sources;
  out_same : g.O.Sink.failures l.out ≡ g.O.Sink.failures l.fn.out;
  log_same : g.L.Sink.failures l.log ≡ g.L.Sink.failures l.fn.log;
}
