use Rattle.std.proofs.Common.{ℕ, List, ◌∷◌, Option, ap, ◌∙◌}
use Rattle.std.specs.Borrow.{Bor}
use Rattle.rtk_cli.specs.Steps.Parts.{marked_parts_after}
use Rattle.rtk_cli.proofs.KindLemmas.{reads-none, reads-more, reads-all, reads-no-more}
use Rattle.rtk_cli.proofs.kind_list.with_exceptions.Goals as goal

pub loop-exception-init : goal.loop-exception-init
loop-exception-init c = reads-none c.args.kinds c.args.text.now

pub loop-exception-preserved : goal.loop-exception-preserved
loop-exception-preserved c =
    reads-more c.args.kinds c.args.text.now c.loop-exception.changed c.loop-exception.rest.now c.first_part.result.0.now c.in-Some-behind.next.now c.in-Some.exception c.with-changed.result
    c.loop-exception.invariant
    (c.first_part.ensures.parts ∙ ap (λ (o : Option (Bor (List ℕ))). c.first_part.result.0.now ∷ marked_parts_after 44 o) c.in-Some-behind.is)
    c.in-Some.ensures c.with-changed.ensures

pub returns-in_default-behind : goal.returns-in_default-behind
returns-in_default-behind c =
    reads-all c.args.kinds c.args.text.now c.loop-exception.changed c.loop-exception.rest.now c.first_part.result.0.now c.in-Some.exception c.with-changed.result
    c.loop-exception.invariant
    (c.first_part.ensures.parts ∙ ap (λ (o : Option (Bor (List ℕ))). c.first_part.result.0.now ∷ marked_parts_after 44 o) c.in_default-behind.is)
    c.in-Some.ensures c.with-changed.ensures

pub returns-in_default : goal.returns-in_default
returns-in_default c =
    reads-no-more c.args.kinds c.args.text.now c.loop-exception.changed c.loop-exception.rest.now c.first_part.result.0.now (marked_parts_after 44 c.first_part.result.1)
    c.loop-exception.invariant c.first_part.ensures.parts c.in_default.ensures
