use Rattle.std.proofs.Common.{◌≡◌, ◌∙◌, ℕ, get_or, inl, inr, rules, sym, ap, subst, arith}
use Rattle.std.proofs.lemmas.Bool.{cases_lt}
use Rattle.std.proofs.lemmas.List.{get_or_default}
use Rattle.rtk_obs.specs.declared.any_code.AnyCode.TheVariants.{G1C}
use Rattle.rtk_obs.specs.AnyCode.{system_of}
use Rattle.rtk_convert.proofs.row_form.codes_end.Goals as goal

pub loop-end-preserved : goal.loop-end-preserved
loop-end-preserved c = λ k d from below.
    let listed = c.args.listed.now in
    let same : c.system.result ≡ c.args.system = search rules in
    elim (cases_lt k c.loop-end.end) [
      | inl low ↦ c.loop-end.invariant k d from low
      | inr here ↦
          let at : c.loop-end.end ≡ k = omega (arith, here, below) in
          subst (λ (n : ℕ). system_of (get_or listed n d) ≡ c.args.system) at
          (ap system_of (get_or_default listed c.loop-end.end d G1C c.loop-end-test.true) ∙ sym c.system.ensures ∙ same)
    ]
