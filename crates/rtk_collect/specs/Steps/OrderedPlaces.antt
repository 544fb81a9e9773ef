-- Places in lists that are in order.
use Rattle.std.specs.Prelude.{ℕ, suc, List, [], ◌∷◌, nat_lt, if◌then◌else◌}
use Rattle.rtk_collect.specs.Entries.{Entries}
use Rattle.rtk_collect.specs.Key.{key}
use Rattle.rtk_collect.specs.EpochSet.{EpochSetView}

-- how many first cells have a lesser key
abbrev pub lower : {E S : Type 0} → Entries E S → ℕ → List E → ℕ
lower es k [] = 0
lower es k (x ∷ xs) = if nat_lt (key es x) k then suc (lower es k xs) else 0

-- how many first epochs are greater
abbrev pub leading : {E : Type 0} → ℕ → List (EpochSetView E) → ℕ
leading e [] = 0
leading e (x ∷ xs) = if nat_lt e x.epoch then suc (leading e xs) else 0
