use Rattle.std.proofs.Common.{◌/◌, ◌%◌, ℕ, List, get_or, ap, arith}
use Rattle.rtk_rinex.proofs.value_check.number_of_three.Goals as goal

pub returns-in_err-digit_of : goal.returns-in_err-digit_of
returns-in_err-digit_of c =
    rw c.from_residual.ensures (λ n e. c.in_err-digit_of.ensures (n / 10 / 10 % 10) (omega arith) (ap (λ (xs : List ℕ). get_or xs 0 0) e))

pub returns-in_err-digit_of-2 : goal.returns-in_err-digit_of-2
returns-in_err-digit_of-2 c =
    rw c.from_residual-in_err-digit_of-2.ensures (λ n e. c.in_err-digit_of-2.ensures (n / 10 % 10) (omega arith) (ap (λ (xs : List ℕ). get_or xs 1 0) e))

pub returns-in_err-digit_of-3 : goal.returns-in_err-digit_of-3
returns-in_err-digit_of-3 c =
    rw c.from_residual-in_err-digit_of-3.ensures (λ n e. c.in_err-digit_of-3.ensures (n % 10) (omega arith) (ap (λ (xs : List ℕ). get_or xs 2 0) e))
