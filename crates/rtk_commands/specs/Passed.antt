-- What passed through a reader or a writer of std, by what was known of its bytes before its first
-- call (this project's rule).
use Rattle.std.specs.Prelude.{◌≡◌, ℕ, ◌-◌, Bool, true, List, [], ◌∷◌, ◌++◌, length, take, Option, None, Some}

-- the bytes that a reader gave, by its number, the bytes that it had and those that it has left. The
-- number stands before them, so that of many readers each gives its own bytes
abbrev pub given_of : ℕ → Option (List ℕ) → Option (List ℕ) → Option (List ℕ)
given_of number None left = None
given_of number (Some all) None = None
given_of number (Some all) (Some left) = Some (number ∷ take (length all - length left) all)

-- what a reader has left is the end of what it had, and at its end it has nothing left
abbrev pub IsLeft : Option (List ℕ) → Option (List ℕ) → Bool → Type 0
IsLeft None left ended = Unit {0}
IsLeft (Some all) None ended = ⊥
IsLeft (Some all) (Some left) ended = (all ≡ take (length all - length left) all ++ left) × (ended ≡ true → left ≡ [])

-- the bytes that a writer took, with those that it held before, by the bytes that it holds
abbrev pub taken_of : Option (List ℕ) → Option (List ℕ) → Option (List ℕ)
taken_of None holds = None
taken_of (Some first) holds = holds

-- bytes that were known are known
abbrev pub StaysKnown : Option (List ℕ) → Option (List ℕ) → Type 0
StaysKnown None holds = Unit {0}
StaysKnown (Some first) None = ⊥
StaysKnown (Some first) (Some holds) = Unit {0}
