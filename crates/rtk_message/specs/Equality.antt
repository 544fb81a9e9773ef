-- What `==` says of two messages.
use Rattle.std.specs.Prelude.{◌≡◌, Bool, true, ◌↔◌}

-- the answer is true exactly if all fields of the two are the same, their lists included
abbrev pub SaysEqual : {X : Type 0} → Bool → X → X → Type 0
SaysEqual answer a b = (answer ≡ true) ↔ (a ≡ b)
