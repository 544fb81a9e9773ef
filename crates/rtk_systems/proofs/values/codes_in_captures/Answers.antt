use Rattle.std.proofs.Common.{◌++◌, Bool, List, ℕ, drop, ◌≡◌, ◌∙◌, sym, ap, arith}
use Rattle.std.proofs.lemmas.List.{append-nil}
use Rattle.std.specs.Prelude.{filter}
use Rattle.rtk_obs.specs.declared.any_code.AnyCode.{AnyCode}
use Rattle.rtk_obs.specs.declared.any_code.AnyCode.TheVariants.{G1C}
use Rattle.rtk_obs.specs.AnyCode.{all_any_codes}
use Rattle.rtk_systems.specs.Values.{is_found}
use Rattle.rtk_systems.proofs.CodeLemmas.{any-code-kept, any-code-left}
use Rattle.rtk_systems.proofs.values.codes_in_captures.Goals.{then-is_found+in_ok-push, else-is_found}
use Rattle.rtk_systems.proofs.values.codes_in_captures.Goals as goal

pub loop-code-preserved : goal.loop-code-preserved
loop-code-preserved c =
    let found : AnyCode → Bool = is_found c.args.surveys.now c.args.station c.args.systems c.args.taken in
    elim c.if-is_found.branch [
      | then-is_found+in_ok-push w ↦
          rw (w.codes-is, w.in_ok-push.ensures.items)
          (any-code-kept found c.loop-code.codes.items c.loop-code.code-index G1C (filter found all_any_codes) c.loop-code-test.true
          (sym c.is_found.ensures ∙ w.if-is_found.true) c.loop-code.invariant)
      | else-is_found w ↦
          rw (w.codes-is)
          (any-code-left found c.loop-code.codes.items c.loop-code.code-index G1C (filter found all_any_codes) c.loop-code-test.true
          (sym c.is_found.ensures ∙ w.if-is_found.false) c.loop-code.invariant)
    ]

pub returns : goal.returns
returns c =
    let found : AnyCode → Bool = is_found c.args.surveys.now c.args.station c.args.systems c.args.taken in
    let codes : List AnyCode = c.loop-code.codes.items in
    let end : c.loop-code.code-index ≡ 69 = omega (arith, c.loop-code.auto.code-index-end, c.loop-code-test.false) in
    sym (append-nil codes) ∙ ap (λ (k : ℕ). codes ++ filter found (drop k all_any_codes)) (sym end) ∙ c.loop-code.invariant
