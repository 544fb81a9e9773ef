-- A field of 38 bits with a sign is a coordinate.
use Rattle.std.proofs.Common.{ℤ, pos, negsuc, arith, sym, subst}
use Rattle.std.specs.Prelude.{◌≤ℤ◌, ◌<ℤ◌}
use Rattle.std.proofs.lemmas.Int.{ints, to_z-of_z}
use mir.Val.{SFits, to_z, of_z}
use mir.Syntax.{w64}
use Rattle.rtk_obs.specs.Coordinates.{IsCoordinate}

abbrev FitsField : ℤ → Type 0
FitsField v = (negsuc 137438953471 ≤ℤ v) × (v <ℤ pos 137438953472)

coordinate : (v : ℤ) → FitsField v → IsCoordinate v
coordinate v h = let l = h.1 in record { least = h.0; greatest = omega (arith, ints, l) }

pub stored : (v : ℤ) → SFits w64 v → FitsField v → IsCoordinate (to_z w64 (of_z w64 v))
stored v f h = subst IsCoordinate (sym (to_z-of_z w64 v f)) (coordinate v h)
