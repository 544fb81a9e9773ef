use Rattle.std.proofs.Common.{ℕ, List, ◌∷◌, Option, sym, ap, ◌∙◌}
use Rattle.std.specs.Borrow.{Bor}
use Rattle.rtk_cli.specs.Steps.Parts.{marked_parts_after}
use Rattle.rtk_cli.proofs.ChannelLemmas.{more-after}
use Rattle.rtk_cli.proofs.channel_list.slot_of_word.Goals as goal

pub returns-then-is_some : goal.returns-then-is_some
returns-then-is_some c = λ p good.
    more-after c.args.word.now c.first_part.result.0.now c.first_part-2.result.0.now c.first_part-2.result.1
    (c.first_part.ensures.parts ∙ ap (λ (o : Option (Bor (List ℕ))). c.first_part.result.0.now ∷ marked_parts_after 58 o) c.in-Some.is ∙ ap (λ (t : List (List ℕ)). c.first_part.result.0.now ∷ t) c.first_part-2.ensures.parts)
    (sym c.is_some.ensures ∙ c.if-is_some.true) p
