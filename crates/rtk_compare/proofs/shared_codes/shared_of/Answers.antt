use Rattle.std.proofs.Common.{◌++◌, ℕ, List, append-nil, sym, ap, ◌∙◌, arith}
use Rattle.std.specs.Prelude.{Option}
use Rattle.std.proofs.lemmas.List.{drop_all}
use Rattle.rtk_obs.specs.declared.any_code.AnyCode.{AnyCode}
use Rattle.rtk_compare.specs.declared.shared_codes.SharedCode.{SharedCode}
use Rattle.rtk_compare.specs.Codes.{shared_from, with_places, place_in}
use Rattle.rtk_compare.proofs.CodeLemmas.{shared-more}
use Rattle.rtk_compare.proofs.shared_codes.shared_of.Goals as goal

pub loop-old-preserved : goal.loop-old-preserved
loop-old-preserved c =
    let l = c.loop-old in
    let k : ℕ = l.old in
    let before : List SharedCode = l.shared.items in
    let code : AnyCode = c.code_at-code.result in
    let more = c.put_shared.ensures.len in
    let few = l.invariant.few in
    record {
      items = shared-more c.args.shifts c.args.news.now c.args.olds.now k code before c.put_shared.new.shared.items c.loop-old-test.true l.invariant.items
          (c.put_shared.ensures.items ∙ ap (λ (o : Option ℕ). before ++ with_places c.args.shifts code k o) c.place_in-new.ensures
          ∙ ap (λ (x : AnyCode). before ++ with_places c.args.shifts x k (place_in x c.args.news.now)) (c.code_at-code.ensures code));
      few = omega (arith, more, few);
    }

pub returns-clause-items : goal.returns-clause-items
returns-clause-items c =
    let l = c.loop-old in
    sym (append-nil l.shared.items)
    ∙ sym (l.invariant.items ∙ ap (λ (cs : List AnyCode). l.shared.items ++ shared_from c.args.shifts c.args.news.now l.old cs) (drop_all l.old c.args.olds.now (omega (arith, c.loop-old-test.false))))
