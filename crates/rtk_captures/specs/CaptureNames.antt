-- Captures by their places, from 0, and lines of each of them (this project's rule).
use Rattle.std.specs.Prelude.{ℕ, ◌+◌, List, [], ◌∷◌, ◌++◌, slice_get, Option, None, Some}
use Rattle.std.specs.Borrow.{Bor}

abbrev pub text_if_any : Option (Bor (List ℕ)) → List ℕ
text_if_any None = []
text_if_any (Some text) = text.now

-- the name of the capture at a place
abbrev pub capture_name : List (Bor (List ℕ)) → ℕ → List ℕ
capture_name names place = text_if_any (slice_get names place)

-- the lines of the entries of a list by their places, of which the first is this one
abbrev pub lines_by : {A : Type 0} → (ℕ → A → List ℕ) → ℕ → List A → List ℕ
lines_by lines at [] = []
lines_by lines at (x ∷ xs) = lines at x ++ lines_by lines (at + 1) xs
