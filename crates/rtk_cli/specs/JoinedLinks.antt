-- The bytes of links whose parts are joined.
use Rattle.std.specs.Prelude.{ℕ, List, map, Option}
use Rattle.std.specs.declared.vec.Vec.{Vec}
use Rattle.rtk_commands.specs.Joined.{joined_bytes}

-- the bytes of each link: those of its parts, in their order
abbrev pub links_bytes : {R A : Type 0} → (R → Option (List ℕ)) → List (Vec R A) → List (Option (List ℕ))
links_bytes remaining links = map (λ parts. joined_bytes remaining parts.items) links
