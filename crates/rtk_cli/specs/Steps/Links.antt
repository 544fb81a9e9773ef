-- Readers and writers of a conversion by their numbers.
use Rattle.std.specs.Prelude.{◌≡◌, ℕ, zero, suc, ◌<◌, List, length, map, Option, None, slice_index_or}

-- the bytes that a reader has, by its place
abbrev pub bytes_had : {R : Type 0} → (R → Option (List ℕ)) → List R → ℕ → Option (List ℕ)
bytes_had remaining readers k = slice_index_or (map remaining readers) k None

-- the bytes that a writer holds: number 0 is that of the file, number 1 that of the report
abbrev pub bytes_held : Option (List ℕ) → Option (List ℕ) → ℕ → Option (List ℕ)
bytes_held file report zero = file
bytes_held file report (suc k) = report

-- sources over readers, in their order, and numbered from 0
pub record AreLinksOf {S R : Type 0} (links : List S) (readers : List R) (number : S → ℕ) (inner : S → R) : Type 0 where
  pub over : map inner links ≡ readers
  pub numbers : (k : ℕ) (none : S) → k < length links → number (slice_index_or links k none) ≡ k
