use Rattle.std.proofs.Common.{◌≡◌, ◌/◌, length, ap, arith, refl}
use Rattle.std.proofs.lemmas.Fmt.{length-decimal-le}
use Rattle.rtk_label.proofs.time_lines.moment_columns.Goals as goal

pub put_with_point-requires-clause-digits : goal.put_with_point-requires-clause-digits
put_with_point-requires-clause-digits c =
    let digits = length-decimal-le 5 (c.seconds-units.result / 10_000_000) (omega arith) (omega (arith, c.seconds-units.ensures.bound)) (omega (arith, c.seconds-units.ensures.bound)) in
    let point : length c.point_and_seven.result ≡ 8 = ap length c.point_and_seven.ensures in
    omega (arith, digits, point)

pub returns-clause-value : goal.returns-clause-value
returns-clause-value c =
    rw (
      c.add.ensures.items,
      c.put_with_point.ensures.items,
      c.put_integer-5.ensures.items,
      c.put_integer-4.ensures.items,
      c.put_integer-3.ensures.items,
      c.put_integer-2.ensures.items,
      c.put_integer.ensures.items,
      c.new-columns.ensures,
      c.from-5.ensures,
      c.from-4.ensures,
      c.from-3.ensures,
      c.from-2.ensures,
      c.from.ensures,
      c.point_and_seven.ensures,
      c.seconds-units.ensures.value,
    ) refl
