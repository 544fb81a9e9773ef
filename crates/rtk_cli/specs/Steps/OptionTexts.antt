-- What the text of an option says that need not be given.
use Rattle.std.specs.Prelude.{ℕ, List, Option, None, Some}
use Rattle.std.specs.Borrow.{Bor}

-- formula
-- the option's text says this value, by a relation of texts and values; without the option there is none (this project's rule)
abbrev pub SaysIfAny : {T : Type 0} → (List ℕ → T → Type 0) → Option (Bor (List ℕ)) → Option T → Type 0
SaysIfAny Says None None = Unit {0}
SaysIfAny Says None (Some value) = ⊥
SaysIfAny Says (Some text) None = ⊥
SaysIfAny Says (Some text) (Some value) = Says text.now value
