-- A position from its fields.
use Rattle.std.specs.Prelude.{◌≡◌, ℕ, ℤ}
use Rattle.rtk_obs.specs.declared.position.Position.{Position}

-- the position has these fields
abbrev pub HasFields : ℤ → ℤ → ℤ → ℕ → Position → Type 0
HasFields x y z height p = (p.x ≡ x) × (p.y ≡ y) × (p.z ≡ z) × (p.height ≡ height)
