use Rattle.std.proofs.Common.{◌≡◌, ◌/◌, length, ap, arith, refl}
use Rattle.std.proofs.lemmas.Fmt.{length-decimal-le}
use Rattle.rtk_label.proofs.time_lines.interval_columns.Goals as goal

pub put_with_point-requires-clause-digits : goal.put_with_point-requires-clause-digits
put_with_point-requires-clause-digits c =
    let digits = length-decimal-le 6 (c.args.interval_ms / 1000) (omega arith) (omega (arith, c.requires)) (omega (arith, c.requires)) in
    let point : length c.point_and_three.result ≡ 4 = ap length c.point_and_three.ensures in
    omega (arith, digits, point)

pub returns-clause-value : goal.returns-clause-value
returns-clause-value c = rw (c.put_with_point.ensures.items, c.new-columns.ensures, c.point_and_three.ensures) refl
