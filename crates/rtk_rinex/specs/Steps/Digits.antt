-- The number that columns show, whatever stands in them. It counts only if its own text equals
-- those columns, or if they are known to hold blanks and digits alone.
use Rattle.std.specs.Prelude.{ℕ, ◌+◌, ◌-◌, ◌*◌, ◌%◌, nat_le, ◌==◌, Bool, ◌&&◌, if◌then◌else◌, List, [], ◌∷◌, ℤ, pos, neg_ℤ}
use Rattle.std.specs.List.{list_any}

-- one more character of a number: a digit, or any other, which is passed over
abbrev pub with_digit : ℕ → ℕ → ℕ
with_digit a x = if nat_le 48 x && nat_le x 57 then a * 10 + (x - 48) else a

-- the number that another number and then the digits of a text write
unfoldable pub digits_from : ℕ → List ℕ → ℕ
digits_from a [] = a
digits_from a (x ∷ xs) = digits_from (with_digit a x) xs

unfoldable pub has_minus : List ℕ → Bool
has_minus = list_any (λ x. x == 45)

-- the number that the digits of a text write, negative if it has a minus sign
abbrev pub number_in : List ℕ → ℤ
number_in text = if has_minus text then neg_ℤ (pos (digits_from 0 text)) else pos (digits_from 0 text)

-- the number that another number and then a text of blanks and digits write: each counts by its low four bits, so a
-- blank is a 0
unfoldable pub padded_digits_from : ℕ → List ℕ → ℕ
padded_digits_from a [] = a
padded_digits_from a (x ∷ xs) = padded_digits_from (a * 10 + x % 16) xs
