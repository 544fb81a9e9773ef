use Rattle.std.proofs.lemmas.Grind.{common_steps}
use Rattle.std.proofs.Common.{◌≡◌, ◌+◌, ℕ, length, None, suc, refl, sym, subst, ◌∙◌, arith}
use Rattle.std.proofs.lemmas.Result.{err_from_is_err_and}
use Rattle.rtk_convert.specs.Converter.{ConverterView, refusal}
use Rattle.rtk_convert.specs.Writing.{written}
use Rattle.rtk_convert.proofs.ClosingLemmas.{ClosesSome, some-refused, none-given, closes-none, closes-past, closes-next, closes-off, closes-all}
use Rattle.rtk_convert.proofs.converter.Converter.close_all.Goals as goal

pub loop-link-init : goal.loop-link-init
loop-link-init g c = record {
  going = c.requires.going;
  same_setup = refl;
  out_same = refl;
  log_same = refl;
  closed = λ h r. closes-none c.args.self.now h (written (g.O.Sink.taken c.args.out.now) (g.L.Sink.taken c.args.log.now)) r;
}

pub loop-link-preserved-then-is_some : goal.loop-link-preserved-then-is_some
loop-link-preserved-then-is_some g c =
    let before = written (g.O.Sink.taken c.args.out.now) (g.L.Sink.taken c.args.log.now) in
    let after = written (g.O.Sink.taken c.loop-link.out) (g.L.Sink.taken c.loop-link.log) in
    let i = c.loop-link.invariant in
    let next : suc c.loop-link.link ≡ c.loop-link.link + 1 = omega arith in
    let refused : refusal c.loop-link.self c.loop-link.link ≡ None → ⊥ = some-refused c.refusal.result (refusal c.loop-link.self c.loop-link.link) c.refusal.ensures (sym c.is_some.ensures ∙ c.if-is_some.true) in
    record {
      going = i.going;
      same_setup = i.same_setup;
      out_same = i.out_same;
      log_same = i.log_same;
      closed = λ h r. subst (λ (n : ℕ). ClosesSome c.args.self.now h n c.loop-link.self before after) next
          (closes-past refused (i.closed h r));
    }

pub loop-link-preserved : goal.loop-link-preserved
loop-link-preserved g c =
    let before = written (g.O.Sink.taken c.args.out.now) (g.L.Sink.taken c.args.log.now) in
    let after = written (g.O.Sink.taken c.close.new.out) (g.L.Sink.taken c.close.new.log) in
    let i = c.loop-link.invariant in
    let next : suc c.loop-link.link ≡ c.loop-link.link + 1 = omega arith in
    let none : refusal c.loop-link.self c.loop-link.link ≡ None = none-given c.refusal.result (refusal c.loop-link.self c.loop-link.link) c.refusal.ensures (sym c.is_some.ensures ∙ c.if-is_some.false) in
    record {
      going = c.in_ok-close.ensures.leaves.going;
      same_setup = c.close.ensures.leaves.same_setup ∙ i.same_setup;
      out_same = c.in_ok-close.ensures.failed.file_failed ∙ i.out_same;
      log_same = c.in_ok-close.ensures.failed.report_failed ∙ i.log_same;
      closed = λ h r. subst (λ (n : ℕ). ClosesSome c.args.self.now h n c.close.new.self before after) next
          (closes-next
          i.same_setup none (i.closed h r) c.in_ok-close.ensures.ends.ok);
    }

pub returns-in_err-close-clause-closes : goal.returns-in_err-close-clause-closes
returns-in_err-close-clause-closes g c =
    let p = err_from_is_err_and c.from_residual.result c.from_residual.ensures.1 in
    let i = c.loop-link.invariant in
    let none : refusal c.loop-link.self c.loop-link.link ≡ None = none-given c.refusal.result (refusal c.loop-link.self c.loop-link.link) c.refusal.ensures (sym c.is_some.ensures ∙ c.if-is_some.false) in
    let fault = c.in_err-close.ensures.leaves.fault none in
    rw (p.1, p.2) (record {
      same_setup = c.close.ensures.leaves.same_setup ∙ i.same_setup;
      going = tt;
      ok = tt;
      err = λ h r. (c.loop-link.link, closes-off i.same_setup none (i.closed h r) (c.in_err-close.ensures.ends.err fault));
      fault = fault;
    })

pub returns-in_err-close-clause-failed : goal.returns-in_err-close-clause-failed
returns-in_err-close-clause-failed g c =
    let p = err_from_is_err_and c.from_residual.result c.from_residual.ensures.1 in
    rw (p.1, p.2, ← c.loop-link.invariant.out_same, ← c.loop-link.invariant.log_same) c.in_err-close.ensures.failed

pub returns-clause-closes : goal.returns-clause-closes
returns-clause-closes g c =
    let len : c.len-link-end.result ≡ length c.self.inside.links.items = grind (arith, common_steps, c.len-link-end.ensures) in
    let test = c.loop-link-test.false in
    let le = c.loop-link.auto.link-end in
    let end : c.loop-link.link ≡ c.len-link-end.result = grind (arith) in
    let all : c.loop-link.link ≡ length c.args.self.now.links = subst (λ (s : ConverterView). c.loop-link.link ≡ length s.links) c.self.view_is (end ∙ len) in
    record { same_setup = c.loop-link.invariant.same_setup; going = c.loop-link.invariant.going; ok = closes-all all c.loop-link.invariant.closed; err = tt; fault = tt }
