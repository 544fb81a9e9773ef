-- The command `summary`: what it writes of a text.
use Rattle.std.specs.Prelude.{◌≡◌, ℕ, List, ◌++◌, Option}
use Rattle.rtk_frame.specs.Stream.{with_more, TakesPart}
use Rattle.rtk_survey.specs.ReadFrames.{ReadFrame}
use Rattle.rtk_survey.specs.Summary.{AreFramesOf, summary_text}

-- the summary of the text of this name was written: before, after
abbrev pub SummarizesText : List ℕ → List ℕ → Option (List ℕ) → Option (List ℕ) → Type 0
SummarizesText name text before after = (fs : List ReadFrame) × AreFramesOf text fs × (after ≡ with_more before (summary_text name text fs))

-- a first part of the summary of a first part of the text was written, perhaps none or all of it
abbrev pub SummarizesPartOf : List ℕ → List ℕ → Option (List ℕ) → Option (List ℕ) → Type 0
SummarizesPartOf name text before after =
    (bytes : List ℕ) × (rest : List ℕ) × (text ≡ bytes ++ rest) × (fs : List ReadFrame) × AreFramesOf bytes fs × TakesPart before after (summary_text name bytes fs)
