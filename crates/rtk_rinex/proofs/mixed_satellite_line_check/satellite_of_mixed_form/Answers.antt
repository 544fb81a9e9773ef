use Rattle.std.proofs.Common.{◌*◌, ◌≤◌, arith}
use Rattle.std.proofs.Math.Nat.{mul-le-mul}
use Rattle.rtk_rinex.proofs.mixed_satellite_line_check.satellite_of_mixed_form.Goals as goal

pub overflow_mul-most : goal.overflow_mul-most
overflow_mul-most c =
    let few : c.code_columns.result * c.width-codes.result ≤ 64 * 16 = mul-le-mul {n₁ = c.code_columns.result} {m₁ = c.width-codes.result} {n₂ = 64} {m₂ = 16} c.code_columns.ensures.few c.width-codes.ensures.few in
    omega (arith, few)
