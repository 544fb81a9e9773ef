use Rattle.std.proofs.Common.{◌≡◌, ◌++◌, Bool, List, ℕ, get_or, drop, sym, ap, ◌∙◌, arith}
use Rattle.std.proofs.lemmas.List.{append-nil}
use Rattle.std.specs.Prelude.{filter}
use Rattle.rtk_obs.specs.declared.any_code.AnyCode.{AnyCode}
use Rattle.rtk_obs.specs.declared.any_code.AnyCode.TheVariants.{G1C}
use Rattle.rtk_obs.specs.AnyCode.{number_of, all_any_codes}
use Rattle.rtk_survey.specs.BitMarks.{is_marked_in}
use Rattle.rtk_survey.specs.SummaryText.{joined_texts, separator_behind, any_codes_text}
use Rattle.rtk_survey.proofs.LineLemmas.{any-code-named, any-code-passed}
use Rattle.rtk_survey.proofs.signal_lines.put_any_codes.Goals.{then-is_marked+in_ok-push+in_ok-extend_from_slice, else-is_marked}
use Rattle.rtk_survey.proofs.signal_lines.put_any_codes.Goals as goal

pub loop-code-init : goal.loop-code-init
loop-code-init c =
    let marked : AnyCode → Bool = λ code. is_marked_in c.args.marks.now.words (number_of code) in
    let text : List ℕ = c.args.names.now.items in
    ap (λ (s : ℕ). text ++ joined_texts s (filter marked all_any_codes)) (c.separator_behind-separator.ensures ∙ ap separator_behind c.as_slice.ensures.value)

pub loop-code-preserved : goal.loop-code-preserved
loop-code-preserved c =
    let marked : AnyCode → Bool = λ code. is_marked_in c.args.marks.now.words (number_of code) in
    let before : List ℕ = c.args.names.now.items in
    let whole : List ℕ = before ++ joined_texts (separator_behind before) (filter marked all_any_codes) in
    let code = get_or all_any_codes c.loop-code.code-index G1C in
    let marked-here : marked code ≡ c.is_marked.result = ap (λ (k : ℕ). is_marked_in c.args.marks.now.words k) (sym c.number.ensures.value) ∙ sym c.is_marked.ensures in
    elim c.if-is_marked.branch [
      | then-is_marked+in_ok-push+in_ok-extend_from_slice w ↦
          rw (w.names-is, w.separator-is, w.in_ok-extend_from_slice.ensures.items, w.in_ok-push.ensures.items, w.text.ensures)
          (any-code-named marked c.loop-code.names.items c.loop-code.separator c.loop-code.code-index G1C whole c.loop-code-test.true
          (marked-here ∙ w.if-is_marked.true) c.loop-code.invariant)
      | else-is_marked w ↦
          rw (w.names-is, w.separator-is)
          (any-code-passed marked c.loop-code.names.items c.loop-code.separator c.loop-code.code-index G1C whole c.loop-code-test.true
          (marked-here ∙ w.if-is_marked.false) c.loop-code.invariant)
    ]

pub returns : goal.returns
unfolding any_codes_text
returns c =
    let marked : AnyCode → Bool = λ code. is_marked_in c.args.marks.now.words (number_of code) in
    let text : List ℕ = c.loop-code.names.items in
    let end : c.loop-code.code-index ≡ 69 = omega (arith, c.loop-code.auto.code-index-end, c.loop-code-test.false) in
    sym (append-nil text) ∙ ap (λ (k : ℕ). text ++ joined_texts c.loop-code.separator (filter marked (drop k all_any_codes))) (sym end) ∙ c.loop-code.invariant
