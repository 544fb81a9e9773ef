-- What was written to the file and to the report.
use Rattle.std.specs.Prelude.{◌≡◌, ℕ, List, ◌++◌, Option}
use Rattle.rtk_frame.specs.Stream.{with_more}

-- all bytes that were written so far; `None` for a stream of which nothing is known
pub record Written : Type 0 where
  pub file : Option (List ℕ)
  pub report : Option (List ℕ)

abbrev pub written : Option (List ℕ) → Option (List ℕ) → Written
written file report = record { file = file; report = report }

-- the first text begins the second, and the rest of the second was written
abbrev pub WritesRest : Option (List ℕ) → Option (List ℕ) → List ℕ → List ℕ → Type 0
WritesRest before after first second = (more : List ℕ) × (second ≡ first ++ more) × (after ≡ with_more before more)
