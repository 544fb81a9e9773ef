-- The ten largest of things that have sizes (this project's rule). The things are listed oldest first.
use Rattle.std.specs.Prelude.{◌≡◌, ℕ, nat_lt, take, List, [], ◌∷◌, length, Option, None, Some, if◌then◌else◌}
use Rattle.std.specs.List.{fold}
use Rattle.rtk_tracking.specs.Epochs.{capped}
use Rattle.rtk_quality.specs.declared.largest.Largest.{Largest}

-- a thing, if it is there
abbrev pub list_of : {T : Type 0} → Option T → List T
list_of None = []
list_of (Some x) = x ∷ []

-- one more thing among others, the largest first: behind all that are as large
abbrev pub insert_by : {T : Type 0} → (T → ℕ) → T → List T → List T
insert_by size x [] = x ∷ []
insert_by size x (y ∷ ys) = if nat_lt (size y) (size x) then x ∷ y ∷ ys else y ∷ insert_by size x ys

-- formula
-- things, the largest first, and of two alike the earlier one
abbrev pub largest_first : {T : Type 0} → (T → ℕ) → List T → List T
largest_first size xs = fold (λ ys x. insert_by size x ys) [] xs

-- formula
-- the ten largest ones
abbrev pub ten_largest : {T : Type 0} → (T → ℕ) → List T → List T
ten_largest size xs = take 10 (largest_first size xs)

-- formula
-- how many there are
abbrev pub count_of : {T : Type 0} → List T → ℕ
count_of xs = capped (length xs)

-- what is kept of things
pub record AreLargest {T : Type 0} (size : T → ℕ) (kept : Largest T) (all : List T) : Type 0 where
  pub count : kept.count ≡ count_of all
  pub largest : kept.things.items ≡ ten_largest size all
