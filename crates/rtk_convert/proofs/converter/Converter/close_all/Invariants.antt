use Rattle.std.proofs.Common.{◌≡◌, false}
use Rattle.rtk_convert.specs.Converter.{RepresentsHistory}
use Rattle.rtk_convert.specs.History.{History}
use Rattle.rtk_convert.specs.Writing.{written}
use Rattle.rtk_convert.proofs.ClosingLemmas.{ClosesSome}
use Rattle.rtk_convert.proofs.converter.Converter.close_all.Given as goal

-- the links below were closed, whatever the history was
abbrev pub invariant-loop-link : goal.invariant-loop-link
invariant-loop-link g l = record {
  going : l.self.conversion.stopped ≡ false;
  same_setup : l.self.conversion.setup ≡ l.fn.self.conversion.setup;
  out_same : g.O.Sink.failures l.out ≡ g.O.Sink.failures l.fn.out;
  log_same : g.L.Sink.failures l.log ≡ g.L.Sink.failures l.fn.log;
  closed : (h : History) → RepresentsHistory l.fn.self h → ClosesSome l.fn.self h l.link l.self (written (g.O.Sink.taken l.fn.out) (g.L.Sink.taken l.fn.log)) (written (g.O.Sink.taken l.out) (g.L.Sink.taken l.log));
}
