-- Two readers side by side.
use Rattle.std.specs.Prelude.{◌≡◌, ◌<◌, ℕ, Bool, true, false, Option, None, Some}
use Rattle.rtk_compare.specs.declared.side.Side.{Side}
use Rattle.rtk_compare.specs.declared.side.Side.TheVariants.{Old, New, Both}

-- which file comes next, by the numbers of what is next in each
abbrev pub IsNextSide : Option ℕ → Option ℕ → Option Side → Type 0
IsNextSide None None side = side ≡ None
IsNextSide None (Some b) side = side ≡ Some New
IsNextSide (Some a) None side = side ≡ Some Old
IsNextSide (Some a) (Some b) None = ⊥
IsNextSide (Some a) (Some b) (Some Old) = a < b
IsNextSide (Some a) (Some b) (Some New) = b < a
IsNextSide (Some a) (Some b) (Some Both) = a ≡ b

abbrev pub has_old : Side → Bool
has_old Old = true
has_old New = false
has_old Both = true

abbrev pub has_new : Side → Bool
has_new Old = false
has_new New = true
has_new Both = true
