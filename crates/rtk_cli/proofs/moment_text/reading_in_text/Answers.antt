use Rattle.std.proofs.Common.{◌≡◌, ℕ, true, false, List, ap, sym, ◌∙◌, subst}
use Rattle.std.specs.Cmp.Lexicographic.{pointwise}
use Rattle.std.proofs.lemmas.Cmp.{nat_list_eq_equiv}
use Rattle.rtk_cli.specs.Steps.MomentText.{moment_text}
use Rattle.rtk_cli.proofs.MomentTextLemmas.{reads-back}
use Rattle.rtk_cli.proofs.moment_text.reading_in_text.Goals as goal

pub returns-else-eq : goal.returns-else-eq
returns-else-eq c = λ r digits e.
    let same = reads-back c.args.text.now c.from.result c.from-2.result c.two_digit_number-2.result c.two_digit_number-3.result
    c.two_digit_number-4.result c.two_digit_number-5.result c.two_digit_number-6.result
    (λ n few tens ones. c.from.ensures ∙ c.two_digit_number-century.ensures.value n few tens ones)
    (λ n few tens ones. c.from-2.ensures ∙ c.two_digit_number.ensures.value n few tens ones)
    c.two_digit_number-2.ensures.value c.two_digit_number-3.ensures.value
    c.two_digit_number-4.ensures.value c.two_digit_number-5.ensures.value c.two_digit_number-6.ensures.value r digits e in
    let text : c.as_slice.result.now ≡ c.args.text.now = c.as_slice.ensures ∙ c.text_of.ensures ∙ ap moment_text same ∙ sym e in
    let equal : pointwise lib.Dec.eqb c.as_slice.result.now c.args.text.now ≡ true = subst (λ (x : List ℕ). pointwise lib.Dec.eqb x c.args.text.now ≡ true) (sym text) (nat_list_eq_equiv.refl c.args.text.now) in
    let no : false ≡ true = c.if-eq.ensures ∙ equal in cc
