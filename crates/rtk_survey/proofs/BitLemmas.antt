-- What is left of a list of bits after some were taken.
use Rattle.std.proofs.Common.{◌≡◌, ◌≤◌, ◌+◌, ℕ, Bool, List, length, drop, arith}
use Rattle.std.proofs.lemmas.Grind.{common_steps}

-- as many are left as there are besides those that were taken
pub left_long : (xs ys : List Bool) (k n : ℕ) → ys ≡ drop k xs → k + n ≤ length xs → n ≤ length ys
left_long xs ys k n is enough = grind (arith, common_steps)

-- some were taken, and then more
pub left_twice : (xs ys zs : List Bool) (j k : ℕ) → ys ≡ drop j xs → zs ≡ drop k ys → zs ≡ drop (j + k) xs
left_twice xs ys zs j k first then = grind (arith, common_steps)
