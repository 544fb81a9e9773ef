use Rattle.std.proofs.Common.{◌≡◌, false, ap, sym, subst, ◌∙◌}
use Rattle.std.proofs.lemmas.Result.{err_from_is_err_and}
use Rattle.rtk_convert.specs.Converter.{ConverterView}
use Rattle.rtk_convert.proofs.ClosingLemmas.{ends-off, ends-all}
use Rattle.rtk_convert.proofs.OutcomeLemmas.{failed-err}
use Rattle.rtk_convert.proofs.converter.Converter.finish.Goals as goal

pub returns-in_err-close_all-clause-ends : goal.returns-in_err-close_all-clause-ends
returns-in_err-close_all-clause-ends g c =
    let p = err_from_is_err_and c.from_residual.result c.from_residual.ensures.1 in
    let started : c.args.self.conversion.stopped ≡ false = subst (λ (s : ConverterView). s.conversion.stopped ≡ false) c.self.view_is (sym c.is_stopped.ensures ∙ c.if-is_stopped.false) in
    rw (p.1, p.2) (ends-off c.args.self c.close_all.new.self started c.in_err-close_all.ensures.closes)

pub returns-in_err-close_all-clause-failed : goal.returns-in_err-close_all-clause-failed
returns-in_err-close_all-clause-failed g c =
    let p = err_from_is_err_and c.from_residual.result c.from_residual.ensures.1 in
    rw (p.1, p.2) (failed-err c.in_err-close_all.ensures.failed)

pub returns-clause-ends : goal.returns-clause-ends
returns-clause-ends g c =
    let all = c.in_ok-close_all.ensures.closes in
    let going : c.closing.inside.conversion.stopped ≡ false = subst (λ (s : ConverterView). s.conversion.stopped ≡ false) (sym c.closing.view_is) all.going in
    let started : c.args.self.conversion.stopped ≡ false = subst (λ (s : ConverterView). s.conversion.stopped ≡ false) c.self.view_is (sym c.is_stopped.ensures ∙ c.if-is_stopped.false) in
    ends-all c.args.self c.close_all.new.self c.finish.result started (ap (λ (s : ConverterView). s.conversion) c.closing.view_is) all (c.finish.ensures.ends going)

pub returns-clause-failed : goal.returns-clause-failed
returns-clause-failed g c = rw (← c.in_ok-close_all.ensures.failed.file_failed, ← c.in_ok-close_all.ensures.failed.report_failed) c.finish.ensures.failed
