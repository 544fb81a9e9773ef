use Rattle.std.proofs.Common.{◌≡◌, ◌∙◌, ◌+◌, List, length, ap, arith, subst, sym, All}
use Rattle.std.proofs.lemmas.List.{length_push}
use Rattle.std.proofs.lemmas.List.Elements.{All-push}
use Rattle.rtk_quality.specs.declared.missing.MissingRuns.{MissingRuns}
use Rattle.rtk_quality.proofs.MissingCodeLemmas.{IsFresh, fresh-codes}
use Rattle.rtk_quality.proofs.missing.MissingCodes.new.Goals as goal

pub loop-code-preserved : goal.loop-code-preserved
loop-code-preserved c =
    let had : List MissingRuns = c.loop-code.codes.items in
    let longer : length c.push.new.self.items ≡ length had + 1 = ap (λ (xs : List MissingRuns). length xs) c.in_ok-push.ensures.items ∙ length_push had _ in
    let size : length had ≡ c.loop-code._code = c.loop-code.invariant.size in
    record {
      size = omega (arith, longer, size);
      fresh = subst (λ (xs : List MissingRuns). All IsFresh xs) (sym c.in_ok-push.ensures.items)
          (All-push IsFresh had c.new.result c.loop-code.invariant.fresh (c.new.ensures.newest, c.new.ensures.ended));
    }

pub returns : goal.returns
returns c = λ interval.
    let size : length c.loop-code.codes.items ≡ c.args.count = omega (arith, c.loop-code.invariant.size, c.loop-code-test.false, c.loop-code.auto._code-end) in
    fresh-codes c.loop-code.codes.items c.args.count interval size c.loop-code.invariant.fresh
