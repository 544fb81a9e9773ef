use Rattle.std.proofs.Common.{◌≡◌, ℕ, ◌+◌, ◌==◌, false, List, ◌∷◌, take, get_or, sym, ap, ◌∙◌, subst, arith}
use Rattle.std.proofs.lemmas.Bool.{ne_eqb}
use Rattle.std.proofs.lemmas.List.{take_rest, take_all}
use Rattle.std.proofs.lemmas.List.Elements.{All-more}
use Rattle.rtk_cli.specs.Steps.Parts.{marked_parts}
use Rattle.rtk_cli.proofs.PartLemmas.{HasNoMark, part-at, part-alone}
use Rattle.rtk_cli.proofs.parts.first_part.Goals as goal

pub returns-then-text-place-clause-parts : goal.returns-then-text-place-clause-parts
returns-then-text-place-clause-parts c =
    part-at c.args.mark c.args.text.now c.loop-place.place c.loop-place-test.true c.loop-place.invariant c.if-text-place.true
    ∙ ap (λ (t : List ℕ). take c.loop-place.place c.args.text.now ∷ marked_parts c.args.mark t) (sym (take_rest c.args.text.now (c.loop-place.place + 1)))

pub loop-place-preserved : goal.loop-place-preserved
loop-place-preserved c =
    All-more (λ (x : ℕ). (x == c.args.mark) ≡ false) c.args.text.now c.loop-place.place 0 c.loop-place-test.true c.loop-place.invariant
    (ne_eqb (get_or c.args.text.now c.loop-place.place 0) c.args.mark c.if-text-place.false)

pub returns-clause-parts : goal.returns-clause-parts
returns-clause-parts c =
    part-alone c.args.mark c.args.text.now
    (subst (λ (t : List ℕ). HasNoMark c.args.mark t) (take_all c.loop-place.place c.args.text.now (omega arith)) c.loop-place.invariant)
