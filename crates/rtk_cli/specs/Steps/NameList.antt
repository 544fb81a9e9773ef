-- A list of names as the words of a command line write it: the names, joined by commas.
use Rattle.std.specs.Prelude.{ℕ, List, ◌∷◌, flat_map}

-- the names of what is listed, a comma before each
abbrev pub comma_names : {N : Type 0} → (N → List ℕ) → List N → List ℕ
comma_names name = flat_map (λ n. 44 ∷ name n)
