use Rattle.std.proofs.Common.{ℕ, ◌+◌, inl, [], ◌∷◌, length, Err, refl, sym, ap, subst, ◌∙◌, arith, rules}
use Rattle.std.proofs.lemmas.Result.{err_from_is_err_and, IfErr-at_err}
use Rattle.rtk_convert.specs.Steps.Faults.{IsReadFault}
use Rattle.rtk_convert.specs.History.{new_history, IsNextLink}
use Rattle.rtk_convert.specs.ReadSteps.{read_of, HasCalled}
use Rattle.rtk_convert.specs.Steps.ReadLink.{ReadsLink, BreaksOffAfterRead}
use Rattle.rtk_setup.specs.Setup.{SetupView}
use Rattle.rtk_convert.specs.Writing.{written}
use Rattle.rtk_convert.proofs.EndsLemmas.{ends-new, ends-more, has-read-all}
use Rattle.rtk_convert.proofs.NextLemmas.{are_links-length}
use Rattle.rtk_convert.proofs.ReadLemmas.{called-more}
use Rattle.rtk_convert.proofs.RunLemmas.{length-links, has_read-nothing, has_read-more, breaks-reading, fails-reading, read-reading}
use Rattle.rtk_convert.proofs.runs.read_all.Goals as goal

pub reads-init : goal.reads-init
reads-init g c = record {
  so_far = ([], new_history (length c.args.sources.now), has_read-nothing g.R.Source.given c.args.converter.now.conversion.setup c.args.sources.now (written (g.O.Sink.taken c.args.out.now) (g.L.Sink.taken c.args.log.now)), c.requires.fresh, refl, ends-new g.R.Source.is_at_end c.args.sources.now);
  same_setup = refl;
  room = refl;
  made = omega arith;
  called = inl (omega arith);
  reads_same = λ k none. refl;
  out_same = refl;
  log_same = refl;
}

pub read_link-requires-clause-link : goal.read_link-requires-clause-link
read_link-requires-clause-link g c =
    let so = c.reads.invariant.so_far in
    let a = are_links-length c.reads.converter.links so.1.links 0 so.1.found so.3.links in
    let b = length-links c.args.converter.now.conversion.setup (length c.args.sources.now) so.0 so.1 so.2.comes_to in
    let d = so.2.gave.as_many in
    let lt = c.in-Some.ensures.within in
    omega (arith, a, b, d, lt)

pub returns-in_err-read_link-clause-read_failed : goal.returns-in_err-read_link-clause-read_failed
returns-in_err-read_link-clause-read_failed g c = λ link is_read.
    let p = err_from_is_err_and c.from_residual.result c.from_residual.ensures.1 in
    let so = c.reads.invariant.so_far in
    let n = c.in-Some.ensures.next so.1 so.3 in
    let both = c.in_err-read_link.ensures.read_failed so.1 so.3 n.is_open link (sym (p.1 ∙ ap Err p.2) ∙ is_read) in
    fails-reading g.R.Source.given g.R.Source.failures g.R.Source.calls c.args.converter.now.conversion.setup so.1 link c.args.sources.now c.reads.sources c.read_link.new.sources so.0
    (written (g.O.Sink.taken c.args.out.now) (g.L.Sink.taken c.args.log.now)) (written (g.O.Sink.taken c.reads.out) (g.L.Sink.taken c.reads.log)) (written (g.O.Sink.taken c.read_link.new.out) (g.L.Sink.taken c.read_link.new.log))
    so.2 (subst (λ (k : ℕ). IsNextLink so.1 k) (sym both.0) n) c.reads.invariant.reads_same both.1
    (subst (λ (n : ℕ). HasCalled g.R.Source.calls c.args.sources.now c.read_link.new.sources (n + 1)) (sym so.4)
    (called-more g.R.Source.calls c.args.sources.now c.reads.sources c.read_link.new.sources c.reads._made c.reads.invariant.called c.read_link.ensures.calls.full c.read_link.ensures.calls.called))

pub reads-preserved : goal.reads-preserved
reads-preserved g c =
    let mid = written (g.O.Sink.taken c.reads.out) (g.L.Sink.taken c.reads.log) in
    let after = written (g.O.Sink.taken c.read_link.new.out) (g.L.Sink.taken c.read_link.new.log) in
    let so = c.reads.invariant.so_far in
    let p : ReadsLink g.R.Source.given g.R.Source.is_at_end c.args.converter.now.conversion.setup so.1 c.in-Some.link c.reads.sources c.read_link.new.sources c.read_link.new.converter mid after =
    subst (λ (s : SetupView). ReadsLink g.R.Source.given g.R.Source.is_at_end s so.1 c.in-Some.link c.reads.sources c.read_link.new.sources c.read_link.new.converter mid after) c.reads.invariant.same_setup
    (c.in_ok-read_link.ensures.reads.ok so.1 so.3 (c.in-Some.ensures.next so.1 so.3)) in
    record {
      so_far = (
        read_of c.in-Some.link p.piece ∷ so.0,
        p.next,
        has_read-more g.R.Source.given g.R.Source.is_at_end c.args.converter.now.conversion.setup so.1 c.in-Some.link c.args.sources.now c.reads.sources c.read_link.new.sources so.0 c.read_link.new.converter
            (written (g.O.Sink.taken c.args.out.now) (g.L.Sink.taken c.args.log.now)) mid after so.2 p,
        p.represents,
        (let made = so.4 in omega (arith, made)),
        ends-more g.R.Source.given g.R.Source.is_at_end c.args.converter.now.conversion.setup so.1 c.in-Some.link c.reads.sources c.read_link.new.sources c.read_link.new.converter
            mid after p so.5,
      );
      same_setup = c.read_link.ensures.same_setup ∙ c.reads.invariant.same_setup;
      room = c.read_link.auto.buf ∙ c.reads.invariant.room;
      made = let one = c.read_link.ensures.calls.reads in let all = c.reads.invariant.made in omega (arith, one, all);
      called = called-more g.R.Source.calls c.args.sources.now c.reads.sources c.read_link.new.sources c.reads._made c.reads.invariant.called c.read_link.ensures.calls.full c.read_link.ensures.calls.called;
      reads_same = λ k none. c.in_ok-read_link.ensures.no_failed_read (λ link e. cc) k none ∙ c.reads.invariant.reads_same k none;
      out_same = c.in_ok-read_link.ensures.failed.file_failed ∙ c.reads.invariant.out_same;
      log_same = c.in_ok-read_link.ensures.failed.report_failed ∙ c.reads.invariant.log_same;
    }

pub returns-in_err-read_link-clause-same_setup : goal.returns-in_err-read_link-clause-same_setup
returns-in_err-read_link-clause-same_setup g c = c.read_link.ensures.same_setup ∙ c.reads.invariant.same_setup

pub returns-in_err-read_link-clause-fault : goal.returns-in_err-read_link-clause-fault
returns-in_err-read_link-clause-fault g c =
    let p = err_from_is_err_and c.from_residual.result c.from_residual.ensures.1 in
    let so = c.reads.invariant.so_far in
    let n = c.in-Some.ensures.next so.1 so.3 in
    rw (p.1, p.2) (read-reading _ (c.in_err-read_link.ensures.fault so.1 so.3 n.is_open))

pub returns-in_err-read_link-clause-no_failed_read : goal.returns-in_err-read_link-clause-no_failed_read
returns-in_err-read_link-clause-no_failed_read g c = λ none k same.
    let p = err_from_is_err_and c.from_residual.result c.from_residual.ensures.1 in
    c.in_err-read_link.ensures.no_failed_read (λ link is. none link (p.1 ∙ ap Err p.2 ∙ is)) k same ∙ c.reads.invariant.reads_same k same

pub returns-in_err-read_link-clause-ends : goal.returns-in_err-read_link-clause-ends
returns-in_err-read_link-clause-ends g c =
    let mid = written (g.O.Sink.taken c.reads.out) (g.L.Sink.taken c.reads.log) in
    let after = written (g.O.Sink.taken c.read_link.new.out) (g.L.Sink.taken c.read_link.new.log) in
    let p = err_from_is_err_and c.from_residual.result c.from_residual.ensures.1 in
    let so = c.reads.invariant.so_far in
    let n = c.in-Some.ensures.next so.1 so.3 in
    rw (p.1, p.2) (record {
      ok = tt;
      err = λ frame. breaks-reading g.R.Source.given g.R.Source.calls c.args.converter.now.conversion.setup so.1 c.in-Some.link c.args.sources.now c.reads.sources c.read_link.new.sources so.0
          (written (g.O.Sink.taken c.args.out.now) (g.L.Sink.taken c.args.log.now)) mid after
          so.2 (c.in-Some.ensures.next so.1 so.3)
          (subst (λ (s : SetupView). BreaksOffAfterRead g.R.Source.given s so.1 c.in-Some.link c.reads.sources c.read_link.new.sources mid after) c.reads.invariant.same_setup (c.in_err-read_link.ensures.reads.err frame so.1 so.3))
          (subst (λ (n : ℕ). HasCalled g.R.Source.calls c.args.sources.now c.read_link.new.sources (n + 1)) (sym so.4)
          (called-more g.R.Source.calls c.args.sources.now c.reads.sources c.read_link.new.sources c.reads._made c.reads.invariant.called c.read_link.ensures.calls.full c.read_link.ensures.calls.called));
      endless = λ is_endless. absurd (IfErr-at_err IsReadFault is_endless (c.in_err-read_link.ensures.fault so.1 so.3 n.is_open));
    })

pub returns-in_default-clause-ends : goal.returns-in_default-clause-ends
returns-in_default-clause-ends g c =
    let so = c.reads.invariant.so_far in
    record {
      ok = has-read-all g.R.Source.given g.R.Source.calls g.R.Source.is_at_end c.args.converter.now.conversion.setup c.args.sources.now c.reads.sources so.0 so.1 c.reads._made c.reads.converter
          (written (g.O.Sink.taken c.args.out.now) (g.L.Sink.taken c.args.log.now)) (written (g.O.Sink.taken c.reads.out) (g.L.Sink.taken c.reads.log)) so.2 so.3 so.4 so.5 c.reads.invariant.called (c.in_default.ensures.next so.1 so.3);
      err = tt;
      endless = λ e. absurd cc;
    }

pub returns-in-None-clause-ends : goal.returns-in-None-clause-ends
returns-in-None-clause-ends g c =
    let so = c.reads.invariant.so_far in
    record {
      ok = has-read-all g.R.Source.given g.R.Source.calls g.R.Source.is_at_end c.args.converter.now.conversion.setup c.args.sources.now c.reads.sources so.0 so.1 c.reads._made c.reads.converter
          (written (g.O.Sink.taken c.args.out.now) (g.L.Sink.taken c.args.log.now)) (written (g.O.Sink.taken c.reads.out) (g.L.Sink.taken c.reads.log)) so.2 so.3 so.4 so.5 c.reads.invariant.called (c.in-None.ensures.next so.1 so.3);
      err = tt;
      endless = λ e. absurd cc;
    }

pub returns-in-Some-next_link-clause-ends : goal.returns-in-Some-next_link-clause-ends
returns-in-Some-next_link-clause-ends g c = record { ok = tt; err = λ frame. absurd frame; endless = search rules depth 5 fits 300 }

pub returns-in_err-read_link-clause-failed : goal.returns-in_err-read_link-clause-failed
returns-in_err-read_link-clause-failed g c =
    let p = err_from_is_err_and c.from_residual.result c.from_residual.ensures.1 in
    rw (p.1, p.2, ← c.reads.invariant.out_same, ← c.reads.invariant.log_same) c.in_err-read_link.ensures.failed
