use Rattle.std.proofs.Common.{◌≡◌, ◌+◌, ◌-◌, ◌/◌, ◌^◌, ◌<◌, ℕ, Bool, true, false, arith, refl, decimal}
use Rattle.std.specs.Prelude.{if◌then◌else◌}
use Rattle.std.proofs.lemmas.Fmt.{length-decimal-le}
use Rattle.rtk_obs.specs.CivilText.{last_digits}
use Rattle.rtk_rinex.proofs.ColumnsLemmas.{right-plain, right-minus}
use Rattle.rtk_rinex.proofs.columns.put_signed_14_3.Goals as goal

limit : (b : Bool) (n : ℕ) → n < (if b then 10 ^ 12 else 10 ^ 13) → n < 10 ^ 13
limit true n h = omega arith
limit false n h = h

pub put_decimal-start-requires : goal.put_decimal-start-requires
put_decimal-start-requires c =
    let small = limit c.args.negative c.args.magnitude c.requires.fits in
    rw c.requires.blank (length-decimal-le 10 (c.args.magnitude / 1000) (omega arith) (omega arith) (omega arith))

pub overflow_sub-field : goal.overflow_sub-field
overflow_sub-field c =
    let small : c.args.magnitude < 10 ^ 12 = rw c.if-negative.true at c.requires.fits in
    let start = rw c.requires.blank at c.put_decimal-start.ensures.start in
    omega (arith, length-decimal-le 9 (c.args.magnitude / 1000) (omega arith) (omega arith) (omega arith))

pub returns-then-negative : goal.returns-then-negative
returns-then-negative c =
    let small : c.args.magnitude < 10 ^ 12 = rw c.if-negative.true at c.requires.fits in
    let at_end = rw c.requires.blank at c.put_decimal-start.ensures.start in
    let short = length-decimal-le 9 (c.args.magnitude / 1000) (omega arith) (omega arith) (omega arith) in
    let start = c.put_decimal-start.result in
    let back : start - 1 + 1 ≡ start = omega arith in
    let p = rw back at (right-minus 10 3 (start - 1) (decimal (c.args.magnitude / 1000)) (last_digits 3 c.args.magnitude) (omega arith) refl) in
    rw (c.if-negative.true, c.put_decimal-start.ensures.written, c.put_last_digits.ensures, c.requires.blank) p

pub returns-else-negative : goal.returns-else-negative
returns-else-negative c =
    let at_end = rw c.requires.blank at c.put_decimal-start.ensures.start in
    let p = right-plain 10 3 c.put_decimal-start.result (decimal (c.args.magnitude / 1000)) (last_digits 3 c.args.magnitude) at_end refl in
    rw (c.if-negative.false, c.put_decimal-start.ensures.written, c.put_last_digits.ensures, c.requires.blank) p
