-- The lesser and the greater of two values, of which one may be absent (this project's rule).
use Rattle.std.specs.Prelude.{ℕ, Option, None, Some}
use Rattle.std.specs.declared.cmp.Ordering.{Ordering}
use Rattle.std.specs.Ordering.{nat_cmp, ord_min, ord_max}

-- formula
-- the lesser by an order; of one value, this value
abbrev pub lesser_by : {A : Type 0} → (A → A → Ordering) → Option A → Option A → Option A
lesser_by cmp None b = b
lesser_by cmp (Some a) None = Some a
lesser_by cmp (Some a) (Some b) = Some (ord_min cmp a b)

-- formula
-- the greater by an order; of one value, this value
abbrev pub greater_by : {A : Type 0} → (A → A → Ordering) → Option A → Option A → Option A
greater_by cmp None b = b
greater_by cmp (Some a) None = Some a
greater_by cmp (Some a) (Some b) = Some (ord_max cmp a b)

-- of two numbers
abbrev pub lesser : Option ℕ → Option ℕ → Option ℕ
lesser = lesser_by nat_cmp

abbrev pub greater : Option ℕ → Option ℕ → Option ℕ
greater = greater_by nat_cmp
