-- What a report lists (this project's rule).
use Rattle.std.specs.Prelude.{ℕ, get_or}
use Rattle.rtk_plan.specs.declared.reported.Reported.{Reported}

-- how many late messages of a link it lists; links are counted from 0
abbrev pub late_of : Reported → ℕ → ℕ
late_of r link = get_or r.late link 0
