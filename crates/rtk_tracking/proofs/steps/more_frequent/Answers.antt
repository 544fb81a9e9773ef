use Rattle.std.proofs.Common.{Option, inl, inr, refl, sym, subst, ◌∙◌, arith}
use Rattle.rtk_tracking.specs.Standing.{IsFrequent}
use Rattle.rtk_tracking.specs.declared.steps.Frequent.{Frequent}
use Rattle.rtk_tracking.proofs.StepLemmas.{overtakes, stays-ahead}
use Rattle.rtk_tracking.proofs.steps.more_frequent.Goals as goal

pub returns-then-overtakes : goal.returns-then-overtakes
returns-then-overtakes c = λ steps was count.
    let h = subst (λ (o : Option Frequent). IsFrequent o steps) c.in-Some.is was in
    let had = h.1 in (
      overtakes c.in-Some.best.step c.args.step steps h.0
          (elim (c.if-overtakes.ensures.yes refl) [ inl more ↦ inl (omega (arith, more, had, count)) | inr alike ↦ inr (sym count ∙ alike.0 ∙ had, alike.1) ]),
      count,
    )

pub returns : goal.returns
returns c = λ steps was count.
    let h = subst (λ (o : Option Frequent). IsFrequent o steps) c.in-Some.is was in
    let o = c.if-overtakes.ensures.no refl in
    let had = h.1 in
    let few = o.0 in
    let stays = stays-ahead c.in-Some.best.step c.args.step steps h.0 (omega (arith, few, had, count)) (λ alike. o.1 (count ∙ alike ∙ sym had)) in
    (stays.0, had ∙ stays.1)
