use Rattle.std.proofs.Common.{ℕ, List, ◌∷◌, Option, sym, ap, ◌∙◌}
use Rattle.std.specs.Borrow.{Bor}
use Rattle.rtk_cli.specs.Steps.Parts.{marked_parts_after}
use Rattle.rtk_cli.proofs.KindLemmas.{letter-twice, no-general, general-alone, general-first}
use Rattle.rtk_cli.proofs.kind_list.kinds_of.Goals as goal

pub returns-then-not-has_letters_once : goal.returns-then-not-has_letters_once
returns-then-not-has_letters_once c = letter-twice c.args.text.now (sym c.has_letters_once.ensures ∙ c.if-not-has_letters_once.true)

pub returns-in_default : goal.returns-in_default
returns-in_default c = no-general c.args.text.now c.first_part.result.0.now (marked_parts_after 44 c.first_part.result.1) c.first_part.ensures.parts c.in_default.ensures

pub returns-in_default-behind : goal.returns-in_default-behind
returns-in_default-behind c =
    general-alone c.args.text.now c.first_part.result.0.now c.in-Some.general c.all.result
    (c.first_part.ensures.parts ∙ ap (λ (o : Option (Bor (List ℕ))). c.first_part.result.0.now ∷ marked_parts_after 44 o) c.in_default-behind.is)
    c.in-Some.ensures (sym c.has_letters_once.ensures ∙ c.if-not-has_letters_once.false) c.all.ensures

pub returns : goal.returns
returns c =
    general-first c.args.text.now c.first_part.result.0.now c.in-Some-behind.exceptions.now c.in-Some.general c.all-2.result c.with_exceptions.result
    (c.first_part.ensures.parts ∙ ap (λ (o : Option (Bor (List ℕ))). c.first_part.result.0.now ∷ marked_parts_after 44 o) c.in-Some-behind.is)
    c.in-Some.ensures (sym c.has_letters_once.ensures ∙ c.if-not-has_letters_once.false) c.all-2.ensures c.with_exceptions.ensures
