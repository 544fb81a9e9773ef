use Rattle.std.proofs.Common.{slice_index_or, arith, ◌∙◌, ap, inl, inr, ℕ}
use Rattle.std.proofs.lemmas.Bool.{cases_order}
use Rattle.std.proofs.lemmas.List.{get_or_default}
use Rattle.rtk_rinex.proofs.MixedCodesLemmas.{swapped_all}
use Rattle.rtk_rinex.proofs.mixed_types_read.move_code.Goals as goal

pub returns-then-k-place-clause-all : goal.returns-then-k-place-clause-all
returns-then-k-place-clause-all c =
    swapped_all c.args.system c.args.all.now c.swap.new.self c.args.place c.in-Some.k c.requires.place c.in-Some.ensures.0 c.swap.ensures.len c.swap.ensures.by_index c.requires.all

pub returns-else-k-place-clause-there : goal.returns-else-k-place-clause-there
returns-else-k-place-clause-there c = λ before d.
    let k = c.in-Some.k in
    elim (cases_order k c.args.place) [
      | inl same ↦ ap (λ (n : ℕ). slice_index_or c.args.all.now n d) (omega (arith, same)) ∙ get_or_default c.args.all.now k d c.args.code c.in-Some.ensures.0 ∙ c.in-Some.ensures.1
      | inr (inl lt) ↦ absurd (before k c.args.code lt c.in-Some.ensures.1)
      | inr (inr gt) ↦ absurd (omega (arith, c.if-k-place.false))
    ]

pub returns-in_default-clause-there : goal.returns-in_default-clause-there
returns-in_default-clause-there c = λ before d.
    let at = c.requires.all.every c.args.code c.requires.letter in absurd (c.in_default.ensures at.0 at.1 at.2)
