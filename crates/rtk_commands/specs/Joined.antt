-- The bytes of readers that are read one after another, as one (this project's rule).
use Rattle.std.specs.Prelude.{ℕ, List, [], ◌∷◌, ◌++◌, drop, Option, None, Some}
use Rattle.rtk_commands.specs.declared.joined.Joined.{Joined}

-- bytes and the bytes after them, if both are known
abbrev pub then_known : Option (List ℕ) → Option (List ℕ) → Option (List ℕ)
then_known None after = None
then_known (Some bytes) None = None
then_known (Some bytes) (Some after) = Some (bytes ++ after)

-- formula
-- the bytes of parts, in their order; if those of one part are not known, nothing is known
abbrev pub joined_bytes : {R : Type 0} → (R → Option (List ℕ)) → List R → Option (List ℕ)
joined_bytes remaining [] = Some []
joined_bytes remaining (part ∷ parts) = then_known (remaining part) (joined_bytes remaining parts)

-- the bytes that are left: those of the part that is read, and of the parts after it
abbrev pub joined_remaining : {R : Type 0} → (R → Option (List ℕ)) → Joined R → Option (List ℕ)
joined_remaining remaining j = joined_bytes remaining (drop j.at j.parts.items)
