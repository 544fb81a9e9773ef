-- The widths of the fields of a satellite of a 1012, and marks of the numbers that came.
use Rattle.std.specs.Prelude.{◌≡◌, ℕ, ◌<◌, ◌^◌, ◌==◌, Bool, false, List, slice_index_or}
use Rattle.std.specs.List.{list_any}
use Rattle.rtk_message.specs.declared.obs1012.GlonassSatellite.{GlonassSatellite}

-- the widths of DF041 (25 bits), DF043, DF044, DF049 (7 bits), DF045, DF050 (8 bits) and DF038 (6 bits)
pub record HasGlonassWidths (s : GlonassSatellite) : Type 0 where
  pub slot : s.slot < 64
  pub l1_range : s.l1_range < 2 ^ 25
  pub modulus_ambiguity : s.modulus_ambiguity < 128
  pub l1_lock_indicator : s.l1_lock_indicator < 128
  pub l2_lock_indicator : s.l2_lock_indicator < 128
  pub l1_cnr : s.l1_cnr < 256
  pub l2_cnr : s.l2_cnr < 256

-- of the numbers below 64 those are marked that came
abbrev pub HasSeenNumbers : List Bool → List ℕ → Type 0
HasSeenNumbers seen numbers = (n : ℕ) → n < 64 → slice_index_or seen n false ≡ list_any (λ m. m == n) numbers
