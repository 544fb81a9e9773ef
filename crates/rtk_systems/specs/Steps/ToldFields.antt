-- The field that is told most often so far.
use Rattle.std.specs.Prelude.{ℕ, nat_lt, Some, if◌then◌else◌}
use Rattle.rtk_systems.specs.declared.slot_channels.MostTold.{MostTold}

-- a field more, which is told so often
abbrev pub most_told_with : MostTold → ℕ → ℕ → MostTold
most_told_with t field count = if nat_lt t.count count then record { field = Some field; count = count } else t
