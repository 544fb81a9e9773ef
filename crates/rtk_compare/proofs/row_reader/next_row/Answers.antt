use Rattle.std.proofs.Common.{ℕ, Option, refl, ap, subst, arith}
use Rattle.rtk_rinex.specs.MixedRecords.{MixedRowsView}
use Rattle.rtk_compare.specs.Steps.Readers.{AreRowsOf, count_of}
use Rattle.rtk_compare.proofs.ReaderLemmas.{next-row, fewer-row}
use Rattle.rtk_compare.proofs.row_reader.next_row.Goals as goal

pub returns-in-Some-clause-next : goal.returns-in-Some-clause-next
returns-in-Some-clause-next c = λ all are.
    next-row c.next_row.result all (λ (s : ℕ). record { satellite = s; observed = c.next_row.new.observed }) _ _ (λ s. refl) (λ s. refl)
    (c.next_row.ensures.next all (subst (λ (o : Option MixedRowsView). AreRowsOf o all) c.in-Some.is are))

pub returns-in-Some-clause-less : goal.returns-in-Some-clause-less
returns-in-Some-clause-less c =
    let fewer = fewer-row c.next_row.result _ _ _ c.next_row.ensures.end in
    let had = ap (λ (o : Option MixedRowsView). count_of o) c.in-Some.is in
    omega (arith, fewer, had)
