use Rattle.std.proofs.Common.{◌≡◌, ◌+◌, ◌-◌, ◌/◌, arith, refl, decimal}
use Rattle.std.proofs.lemmas.Fmt.{length-decimal-le}
use Rattle.rtk_obs.specs.CivilText.{last_digits}
use Rattle.rtk_rinex.proofs.ColumnsLemmas.{right-plain, right-minus}
use Rattle.rtk_rinex.proofs.columns.signed_14_4.Goals as goal

pub put_decimal-start-requires : goal.put_decimal-start-requires
put_decimal-start-requires c = length-decimal-le 9 _ (omega arith) (omega arith) (omega arith)

pub overflow_sub-field : goal.overflow_sub-field
overflow_sub-field c = omega (arith, length-decimal-le 8 (c.args.magnitude / 10000) (omega arith) (omega arith) (omega arith))

pub returns-then-negative : goal.returns-then-negative
returns-then-negative c =
    let short = length-decimal-le 8 (c.args.magnitude / 10000) (omega arith) (omega arith) (omega arith) in
    let start = c.put_decimal-start.result in
    let back : start - 1 + 1 ≡ start = omega arith in
    let p = rw back at (right-minus 9 4 (start - 1) (decimal (c.args.magnitude / 10000)) (last_digits 4 c.args.magnitude) (omega arith) refl) in
    rw (c.if-negative.true, c.put_decimal-start.ensures.written, c.put_last_digits.ensures) p

pub returns-else-negative : goal.returns-else-negative
returns-else-negative c =
    let p = right-plain 9 4 c.put_decimal-start.result (decimal (c.args.magnitude / 10000)) (last_digits 4 c.args.magnitude) c.put_decimal-start.ensures.start refl in
    rw (c.if-negative.false, c.put_decimal-start.ensures.written, c.put_last_digits.ensures) p
