-- The parts of a text between marks.
use Rattle.std.specs.Prelude.{ℕ, ◌==◌, List, [], Option, None, Some}
use Rattle.std.specs.Borrow.{Bor}
use Rattle.std.specs.List.{slice_split}

-- the parts of a text before, between and behind its marks
abbrev pub marked_parts : ℕ → List ℕ → List (List ℕ)
marked_parts mark = slice_split (λ x. x == mark)

-- the parts of what follows a mark, or none without it
abbrev pub marked_parts_after : ℕ → Option (Bor (List ℕ)) → List (List ℕ)
marked_parts_after mark None = []
marked_parts_after mark (Some rest) = marked_parts mark rest.now
