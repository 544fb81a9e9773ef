use Rattle.std.proofs.Common.{◌≡◌, ℕ, ◌/◌, ◌%◌, ◌^◌, arith}
use Rattle.rtk_frame.proofs.Parts.{rest_reduced, reduced_lt}
use Rattle.rtk_frame.proofs.checksum.reduced.Goals as goal

pub returns-clause-rest : goal.returns-clause-rest
returns-clause-rest c =
    let q : ℕ = c.args.polynomial in
    let high : q / 2 ^ 24 / 2 ^ 16 ≡ q / 2 ^ 40 = omega arith in
    let mid : q / 2 ^ 24 / 2 ^ 8 % 256 ≡ q / 2 ^ 32 % 256 = omega arith in rw (c.entry.ensures, c.entry-2.ensures, c.entry-3.ensures, high, mid) (rest_reduced q (omega arith))

pub returns-clause-within : goal.returns-clause-within
returns-clause-within c =
    let q : ℕ = c.args.polynomial in
    let high : q / 2 ^ 24 / 2 ^ 16 ≡ q / 2 ^ 40 = omega arith in
    let mid : q / 2 ^ 24 / 2 ^ 8 % 256 ≡ q / 2 ^ 32 % 256 = omega arith in rw (c.entry.ensures, c.entry-2.ensures, c.entry-3.ensures, high, mid) (reduced_lt q (omega arith))
