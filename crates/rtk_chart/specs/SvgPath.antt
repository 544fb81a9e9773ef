-- Paths of bins in an SVG picture (this project's rule). The n bins of a picture share 1440 units.
use Rattle.std.specs.Prelude.{ℕ, ◌+◌, ◌-◌, ◌*◌, ◌/◌, ◌==◌, Bool, true, false, List, [], ◌∷◌, ◌++◌, codes, decimal, length, map, count_by, max, if◌then◌else◌}
use Rattle.std.specs.List.{fold}
use Rattle.rtk_chart.specs.Signs.{is_tracked}
use Rattle.rtk_chart.specs.declared.time_bin.TimeBin.{TimeBin}

-- formula
-- where a bin begins: behind the share of the bins before it, in whole units
abbrev pub edge_of : ℕ → ℕ → ℕ
edge_of n c = c * 1440 / n

-- formula
abbrev pub middle_of : ℕ → ℕ → ℕ
middle_of n c = (edge_of n c + edge_of n (c + 1)) / 2

-- formula
-- a form over bins with the mark, side by side: how it begins where the first one does, and how it ends
abbrev pub run_part : List ℕ → List ℕ → ℕ → Bool → Bool → List ℕ
run_part begin end x false true = codes "M" ++ decimal x ++ begin
run_part begin end x true false = codes "H" ++ decimal x ++ end
run_part begin end x true true = []
run_part begin end x false false = []

-- the forms over bins from a place on; the last one ends with the bins
abbrev pub runs_from : List ℕ → List ℕ → ℕ → ℕ → Bool → List Bool → List ℕ
runs_from begin end n c was [] = run_part begin end 1440 was false
runs_from begin end n c was (b ∷ bs) = run_part begin end (edge_of n c) was b ++ runs_from begin end n (c + 1) b bs

unfoldable pub runs_text : List ℕ → List ℕ → List Bool → List ℕ
runs_text begin end bs = runs_from begin end (length bs) 0 false bs

-- formula
-- a form in the middle of a bin that has the mark
abbrev pub mark_part : List ℕ → ℕ → Bool → List ℕ
mark_part form x false = []
mark_part form x true = codes "M" ++ decimal x ++ form

abbrev pub marks_from : List ℕ → ℕ → ℕ → List Bool → List ℕ
marks_from form n c [] = []
marks_from form n c (b ∷ bs) = mark_part form (middle_of n c) b ++ marks_from form n (c + 1) bs

unfoldable pub marks_text : List ℕ → List Bool → List ℕ
marks_text form bs = marks_from form (length bs) 0 bs

-- ---- numbers of satellites

-- how many satellites have a phase in a bin
abbrev pub tracked_in : TimeBin → ℕ
tracked_in bin = count_by is_tracked bin.satellites

-- the number of each bin
abbrev pub tracked_counts : List TimeBin → List ℕ
tracked_counts bins = map tracked_in bins

-- the greatest of these numbers
abbrev pub most_tracked : List ℕ → ℕ
most_tracked counts = fold (λ most n. max most n) 0 counts

-- formula
-- a step to another number: 40 units above none is the greatest one
abbrev pub step_part : ℕ → ℕ → ℕ → ℕ → List ℕ
step_part most x was now =
    if now == was then [] else codes "H" ++ decimal x ++ codes "V" ++ decimal (40 - now * 40 / max most 1)

-- the steps of bins from a place on
abbrev pub steps_from : ℕ → ℕ → ℕ → ℕ → List ℕ → List ℕ
steps_from most n c was [] = []
steps_from most n c was (k ∷ ks) = step_part most (edge_of n c) was k ++ steps_from most n (c + 1) k ks

-- of bins with these numbers
unfoldable pub steps_text : List ℕ → List ℕ
steps_text counts = steps_from (most_tracked counts) (length counts) 0 0 counts
