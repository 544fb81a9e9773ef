use Rattle.std.proofs.Common.{Ok, refl, ap, ◌∙◌, arith}
use Rattle.std.proofs.lemmas.Result.{IfErr-weaker, IfErr-at_err}
use Rattle.rtk_convert.specs.Writing.{written}
use Rattle.rtk_convert.proofs.WritingLemmas.{on_ok-map}
use Rattle.rtk_convert.proofs.ReadLemmas.{calls-one, reads-piece, reads-end, breaks-piece, breaks-end, open-goes, fault-read, no-failed}
use Rattle.rtk_convert.proofs.runs.read_link.Goals as goal

pub returns-then-count-eq0-clause-read_failed : goal.returns-then-count-eq0-clause-read_failed
returns-then-count-eq0-clause-read_failed g c = λ h r o k is_read. absurd (IfErr-at_err _ is_read (c.close.ensures.leaves.fault (open-goes c.args.converter.now h c.args.link r o)))

pub returns-clause-read_failed : goal.returns-clause-read_failed
returns-clause-read_failed g c = λ h r o k is_read. absurd (IfErr-at_err _ is_read (c.feed.ensures.leaves.fault (open-goes c.args.converter.now h c.args.link r o)))

pub returns-then-count-eq0-clause-fault : goal.returns-then-count-eq0-clause-fault
returns-then-count-eq0-clause-fault g c = fault-read c.close.result (λ h r o. c.close.ensures.leaves.fault (open-goes c.args.converter.now h c.args.link r o))

pub returns-clause-fault : goal.returns-clause-fault
returns-clause-fault g c = fault-read c.feed.result (λ h r o. c.feed.ensures.leaves.fault (open-goes c.args.converter.now h c.args.link r o))

pub returns-in_default-clause-no_failed_read : goal.returns-in_default-clause-no_failed_read
returns-in_default-clause-no_failed_read g c = λ all. absurd (all _ refl)

pub returns-then-count-eq0-clause-no_failed_read : goal.returns-then-count-eq0-clause-no_failed_read
returns-then-count-eq0-clause-no_failed_read g c = λ _. no-failed g.R.Source.given g.R.Source.failures g.R.Source.calls c.args.sources.now c.read_one.new.sources c.args.link c.in-Ok.count c.read_one.new.buf c.in-Ok.ensures.read

pub returns-clause-no_failed_read : goal.returns-clause-no_failed_read
returns-clause-no_failed_read g c = λ _. no-failed g.R.Source.given g.R.Source.failures g.R.Source.calls c.args.sources.now c.read_one.new.sources c.args.link c.in-Ok.count c.read_one.new.buf c.in-Ok.ensures.read

pub returns-in_default-clause-calls : goal.returns-in_default-clause-calls
returns-in_default-clause-calls g c = calls-one g.R.Source.given g.R.Source.failures g.R.Source.calls c.args.sources.now c.read_one.new.sources c.args.link c.read_one.result c.read_one.new.buf c.requires.link c.read_one.ensures.read

pub returns-then-count-eq0-clause-calls : goal.returns-then-count-eq0-clause-calls
returns-then-count-eq0-clause-calls g c = calls-one g.R.Source.given g.R.Source.failures g.R.Source.calls c.args.sources.now c.read_one.new.sources c.args.link c.read_one.result c.read_one.new.buf c.requires.link c.read_one.ensures.read

pub returns-clause-calls : goal.returns-clause-calls
returns-clause-calls g c = calls-one g.R.Source.given g.R.Source.failures g.R.Source.calls c.args.sources.now c.read_one.new.sources c.args.link c.read_one.result c.read_one.new.buf c.requires.link c.read_one.ensures.read

pub returns-in_default-clause-reads : goal.returns-in_default-clause-reads
returns-in_default-clause-reads g c = record { ok = tt; err = λ frame. absurd frame }

pub returns-then-count-eq0-clause-reads : goal.returns-then-count-eq0-clause-reads
returns-then-count-eq0-clause-reads g c = record {
  ok = on_ok-map c.close.result (λ closes h r n. reads-end g.R.Source.given g.R.Source.is_at_end g.R.Source.failures g.R.Source.calls c.args.converter.now.conversion.setup h c.args.link c.in-Ok.count c.args.sources.now c.read_one.new.sources c.read_one.new.buf c.close.new.self
      (written (g.O.Sink.taken c.args.out.now) (g.L.Sink.taken c.args.log.now)) (written (g.O.Sink.taken c.close.new.out) (g.L.Sink.taken c.close.new.log)) c.if-count-eq0.true n c.in-Ok.ensures.read (λ none. c.in-Ok.ensures.at_end none (let room = c.requires.room in omega (arith, room)) (ap Ok c.if-count-eq0.true)) (closes h r)) c.close.ensures.ends.ok;
  err = IfErr-weaker c.close.result _ _ (λ fault breaks frame h r. breaks-end g.R.Source.given g.R.Source.failures g.R.Source.calls c.args.converter.now.conversion.setup h c.args.link c.in-Ok.count c.args.sources.now c.read_one.new.sources c.read_one.new.buf
      (written (g.O.Sink.taken c.args.out.now) (g.L.Sink.taken c.args.log.now)) (written (g.O.Sink.taken c.close.new.out) (g.L.Sink.taken c.close.new.log)) c.if-count-eq0.true c.in-Ok.ensures.read (breaks frame h r)) c.close.ensures.ends.err;
}

pub returns-clause-reads : goal.returns-clause-reads
returns-clause-reads g c = record {
  ok = on_ok-map c.feed.result (λ feeds h r n. reads-piece g.R.Source.given g.R.Source.is_at_end g.R.Source.failures g.R.Source.calls c.args.converter.now.conversion.setup h c.args.link c.in-Ok.count c.args.sources.now c.read_one.new.sources c.read_one.new.buf c.feed.new.self
      (written (g.O.Sink.taken c.args.out.now) (g.L.Sink.taken c.args.log.now)) (written (g.O.Sink.taken c.feed.new.out) (g.L.Sink.taken c.feed.new.log)) c.if-count-eq0.false c.in-Ok.ensures.bound (c.read_one.auto.buf ∙ c.requires.room) n c.in-Ok.ensures.read (feeds h r)) c.feed.ensures.feeds.ok;
  err = IfErr-weaker c.feed.result _ _ (λ fault breaks frame h r. breaks-piece g.R.Source.given g.R.Source.failures g.R.Source.calls c.args.converter.now.conversion.setup h c.args.link c.in-Ok.count c.args.sources.now c.read_one.new.sources c.read_one.new.buf
      (written (g.O.Sink.taken c.args.out.now) (g.L.Sink.taken c.args.log.now)) (written (g.O.Sink.taken c.feed.new.out) (g.L.Sink.taken c.feed.new.log)) c.if-count-eq0.false c.in-Ok.ensures.bound (c.read_one.auto.buf ∙ c.requires.room) c.in-Ok.ensures.read (breaks frame h r)) c.feed.ensures.feeds.err;
}
