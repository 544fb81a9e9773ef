-- The counts of a conversion as lines (this project's rule).
use Rattle.std.specs.Prelude.{ℕ, List, [], ◌∷◌, ◌++◌, codes, decimal}
use Rattle.rtk_setup.specs.declared.counts.Counts.{Counts}

-- formula
abbrev pub count_line : List ℕ → ℕ → List ℕ
count_line name count = name ++ decimal count ++ 10 ∷ []

-- formula
-- the nine counts at the end
unfoldable pub count_lines : Counts → List ℕ
count_lines c =
    count_line (codes "frames ") c.frames ++ count_line (codes "other ") c.other ++ count_line (codes "refused ") c.refused
    ++ count_line (codes "foreign ") c.foreign ++ count_line (codes "taken ") c.taken ++ count_line (codes "repeat ") c.repeat
    ++ count_line (codes "conflict ") c.conflict ++ count_line (codes "late ") c.late ++ count_line (codes "epochs ") c.epochs
