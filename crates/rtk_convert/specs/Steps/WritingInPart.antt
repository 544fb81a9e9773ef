-- A text, or a first part of the rest of a text.
use Rattle.std.specs.Prelude.{◌≡◌, ℕ, List, ◌++◌, Option, Result, OnOk}
use Rattle.rtk_frame.specs.Stream.{with_more, TakesPart}

-- the first text begins the second, and a first part of the rest of the second was written: perhaps
-- nothing, perhaps all of it
abbrev pub WritesPartOfRest : Option (List ℕ) → Option (List ℕ) → List ℕ → List ℕ → Type 0
WritesPartOfRest before after first second = (more : List ℕ) × (rest : List ℕ) × (second ≡ first ++ (more ++ rest)) × (after ≡ with_more before more)

-- a text was written: all of it if the answer is `Ok`, else a first part
pub record PutsText {T E : Type 0} (result : Result T E) (before after : Option (List ℕ)) (text : List ℕ) : Type 0 where
  pub all : OnOk result (after ≡ with_more before text)
  pub part : TakesPart before after text
