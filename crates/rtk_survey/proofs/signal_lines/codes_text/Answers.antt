use Rattle.std.proofs.Common.{◌≡◌, ◌++◌, Bool, List, ℕ, false, get_or, drop, sym, ap, ◌∙◌, arith}
use Rattle.std.proofs.lemmas.List.{append-nil}
use Rattle.std.specs.Prelude.{filter}
use Rattle.rtk_obs.specs.declared.code.Code.{Code}
use Rattle.rtk_obs.specs.declared.code.Code.TheVariants.{G1C}
use Rattle.rtk_obs.specs.Code.{place_of, all_codes}
use Rattle.rtk_survey.specs.SummaryText.{joined_names, codes_text}
use Rattle.rtk_survey.proofs.LineLemmas.{code-named, code-passed}
use Rattle.rtk_survey.proofs.signal_lines.codes_text.Goals.{then-marks-place+in_ok-push+in_ok-extend_from_slice, else-marks-place}
use Rattle.rtk_survey.proofs.signal_lines.codes_text.Goals as goal

pub loop-code-preserved : goal.loop-code-preserved
loop-code-preserved c =
    let marks : List Bool = c.args.marks.now in
    let marked : Code → Bool = λ code. get_or marks (place_of code) false in
    elim c.if-marks-place.branch [
      | then-marks-place+in_ok-push+in_ok-extend_from_slice w ↦
          rw (w.text-is, w.separator-is, w.in_ok-extend_from_slice.ensures.items, w.in_ok-push.ensures.items, w.name.ensures)
          (code-named marked c.loop-code.text.items c.loop-code.separator c.loop-code.code-index G1C (joined_names 32 (filter marked all_codes)) c.loop-code-test.true
          (ap (λ (k : ℕ). get_or marks k false) (sym c.place.ensures.value) ∙ w.if-marks-place.true) c.loop-code.invariant)
      | else-marks-place w ↦
          rw (w.text-is, w.separator-is)
          (code-passed marked c.loop-code.text.items c.loop-code.separator c.loop-code.code-index G1C (joined_names 32 (filter marked all_codes)) c.loop-code-test.true
          (ap (λ (k : ℕ). get_or marks k false) (sym c.place.ensures.value) ∙ w.if-marks-place.false) c.loop-code.invariant)
    ]

pub returns : goal.returns
unfolding codes_text
returns c =
    let marked : Code → Bool = λ code. get_or c.args.marks.now (place_of code) false in
    let text : List ℕ = c.loop-code.text.items in
    let end : c.loop-code.code-index ≡ 16 = omega (arith, c.loop-code.auto.code-index-end, c.loop-code-test.false) in
    sym (append-nil text) ∙ ap (λ (k : ℕ). text ++ joined_names c.loop-code.separator (filter marked (drop k all_codes))) (sym end) ∙ c.loop-code.invariant
