use Rattle.std.proofs.Common.{ℕ, List, refl, ap, subst, ◌∙◌}
use Rattle.std.proofs.lemmas.Result.{err_from_is_err_and}
use Rattle.rtk_frame.specs.Stream.{with_more, TakesPart}
use Rattle.rtk_convert.specs.declared.fault.ConvertFault.TheVariants.{OutOfMemory}
use Rattle.rtk_convert.proofs.EndLemmas.{finishes, finish-part-file, finish-part-lines}
use Rattle.rtk_convert.proofs.HandedLemmas.{out-leaves-report}
use Rattle.rtk_convert.proofs.OutcomeLemmas.{ends-ok, ends-err}
use Rattle.rtk_convert.proofs.WritingLemmas.{takes-none}
use Rattle.rtk_convert.proofs.conversion.Conversion.finish.Goals as goal

pub finish-requires : goal.finish-requires
finish-requires g c = record { form = c.self.invariant.1; places = c.self.invariant.2.places; ahead = c.self.invariant.2.ahead c.if-self.false }

pub returns-in_err-counts-clause-ends : goal.returns-in_err-counts-clause-ends
returns-in_err-counts-clause-ends g c = λ going.
    let p = err_from_is_err_and c.from_residual.result c.from_residual.ensures.1 in
    rw (p.1, p.2) (ends-err _ c.self.view_is c.in_err-counts.ensures.ends.fault (finish-part-file c.in_err-counts.ensures.ends.err))

pub returns-in_err-lines-clause-ends : goal.returns-in_err-lines-clause-ends
returns-in_err-lines-clause-ends g c = λ going.
    let p = err_from_is_err_and c.from_residual-in_err-lines.result c.from_residual-in_err-lines.ensures.1 in
    rw (p.1, p.2) (ends-err OutOfMemory c.self.view_is tt
    (finish-part-lines c.in_ok-counts.ensures.ends.ok refl
    (takes-none _ _)))

pub returns-clause-ends : goal.returns-clause-ends
returns-clause-ends g c = λ going.
    ends-ok c.self.view_is (finishes c.in_ok-counts.ensures.ends.ok refl (c.in_ok-write_lines.ensures.puts.all ∙ ap (with_more (g.L.Sink.taken c.args.log.now)) (c.deref.ensures.value ∙ c.in_ok-lines.ensures)))

pub returns-in_err-write_lines-clause-ends : goal.returns-in_err-write_lines-clause-ends
returns-in_err-write_lines-clause-ends g c = λ going.
    let p = err_from_is_err_and c.from_residual-in_err-write_lines.result c.from_residual-in_err-write_lines.ensures.1 in
    let part = subst (λ (t : List ℕ). TakesPart (g.L.Sink.taken c.args.log.now) (g.L.Sink.taken c.write_lines.new.log) t) (c.deref.ensures.value ∙ c.in_ok-lines.ensures) c.write_lines.ensures.puts.part in
    rw (p.1, p.2, c.in_err-write_lines.ensures.fault) (ends-err _ c.self.view_is tt (finish-part-lines c.in_ok-counts.ensures.ends.ok refl part))

pub returns-in_err-counts-clause-failed : goal.returns-in_err-counts-clause-failed
returns-in_err-counts-clause-failed g c =
    let p = err_from_is_err_and c.from_residual.result c.from_residual.ensures.1 in
    rw (p.1, p.2) (record { file_failed = c.in_err-counts.ensures.failed.file_failed; report_failed = out-leaves-report _ _ c.in_err-counts.ensures.failed.fault })

pub returns-in_err-write_lines-clause-failed : goal.returns-in_err-write_lines-clause-failed
returns-in_err-write_lines-clause-failed g c =
    let p = err_from_is_err_and c.from_residual-in_err-write_lines.result c.from_residual-in_err-write_lines.ensures.1 in
    rw (p.1, p.2) (record { file_failed = rw c.in_err-write_lines.ensures.fault c.in_ok-counts.ensures.failed.file_failed; report_failed = c.in_err-write_lines.ensures.report_failed })

pub returns-in_err-lines-clause-failed : goal.returns-in_err-lines-clause-failed
returns-in_err-lines-clause-failed g c =
    let p = err_from_is_err_and c.from_residual-in_err-lines.result c.from_residual-in_err-lines.ensures.1 in
    rw (p.1, p.2) (record { file_failed = c.in_ok-counts.ensures.failed.file_failed; report_failed = refl })
