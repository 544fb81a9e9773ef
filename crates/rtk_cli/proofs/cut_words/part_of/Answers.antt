use Rattle.std.proofs.Common.{inr, refl}
use Rattle.rtk_cli.proofs.cut_words.part_of.Goals as goal

pub returns-then-ends_before_it_begins-clause-refused : goal.returns-then-ends_before_it_begins-clause-refused
returns-then-ends_before_it_begins-clause-refused c =
    inr (c.in_ok-from.from, c.in_ok-until.until, c.in_ok-from.ensures.moment, c.in_ok-until.ensures.moment, c.ends_before_it_begins.ensures.0 c.if-ends_before_it_begins.true)

pub returns-clause-said : goal.returns-clause-said
returns-clause-said c =
    (c.in_ok-from.ensures.moment, c.in_ok-until.ensures.moment, refl, λ after. let is = c.ends_before_it_begins.ensures.1 after in let not = c.if-ends_before_it_begins.false in cc)
