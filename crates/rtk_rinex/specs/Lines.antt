-- Lines of a text.
use Rattle.std.specs.Prelude.{◌≡◌, ◌≢◌, ℕ, List, [], ◌∷◌, ◌++◌, flat_map, All}

-- formula
-- no line ends in this text: it has no LF
abbrev pub HasNoEnd : List ℕ → Type 0
HasNoEnd text = All (λ x. x ≢ 10) text

-- formula
-- a line, with the LF that ends it
abbrev pub IsLine : List ℕ → Type 0
IsLine line = (front : List ℕ) × HasNoEnd front × (line ≡ front ++ 10 ∷ [])

-- the text of lines, each ended by LF
abbrev pub text_of : List (List ℕ) → List ℕ
text_of = flat_map (λ line. line ++ 10 ∷ [])
