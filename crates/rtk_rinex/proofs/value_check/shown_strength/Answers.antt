use Rattle.std.proofs.Common.{◌≡◌, sym, ◌∙◌, Some, arith, to_z, of_z, w64}
use Rattle.std.proofs.lemmas.Int.{ints}
use Rattle.rtk_rinex.specs.Record.{strength_value}
use Rattle.rtk_rinex.specs.Table.{IsAbsentOrWritten}
use Rattle.rtk_rinex.proofs.ValuesLemmas.{written-limits, IsValue-strength}
use Rattle.rtk_rinex.proofs.CellLemmas.{one_value, strength-is}
use Rattle.rtk_rinex.proofs.value_check.shown_strength.Goals as goal

pub returns-in_err-strength_of : goal.returns-in_err-strength_of
returns-in_err-strength_of c =
    rw c.from_residual-in_err-strength_of.ensures (λ s h e.
    let value : Some c.in-Some.value ≡ strength_value s =
    sym c.in-Some.is ∙ one_value c.in_ok-value.field-0 (strength_value s) 32 32 32 32 c.in_ok-value.ensures.0 (IsValue-strength s h) (sym c.in_ok-value.ensures.1 ∙ e) in
    let is = strength-is s c.in-Some.value h value in
    let written : IsAbsentOrWritten (Some c.in-Some.value) = rw c.in-Some.is at c.in_ok-value.ensures.0 in
    let limits = written-limits c.in-Some.value written in
    let same : to_z w64 (of_z w64 c.in-Some.value) ≡ c.in-Some.value = omega (arith, ints, limits) in
    c.in_err-strength_of.ensures is.0 is.2 (same ∙ is.1))
