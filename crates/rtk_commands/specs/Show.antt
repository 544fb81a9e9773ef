-- The commands `show` and `show --msm`.
use Rattle.std.specs.Prelude.{◌≡◌, ℕ, ◌≤◌, Bool, List, length, Option, Some, None, IsSomeAnd}
use Rattle.rtk_frame.specs.Frames.{frames}
use Rattle.rtk_commands.specs.declared.fault.ToolFault.{ToolFault}
use Rattle.rtk_commands.specs.declared.fault.ToolFault.TheVariants.{Input, TooLong, NotHex, OutOfMemory, Output}
use Rattle.rtk_commands.specs.declared.showing.TheConstants.{SHOW_LIMIT}
use Rattle.rtk_commands.specs.Hex.{capture_of}
use Rattle.rtk_commands.specs.Shown.{IsLineOf, Shows, ShowsPart}

-- a text is shown, by what is the line of a payload: it is short enough, and a capture, whose lines were
-- taken, so many (this project's rule)
abbrev pub ShowsTextBy : (List ℕ → List ℕ → Type 0) → Bool → ℕ → List ℕ → Option (List ℕ) → Option (List ℕ) → Type 0
ShowsTextBy IsLine hex count text before after =
    (length text ≤ SHOW_LIMIT) × IsSomeAnd (capture_of hex text) (λ capture. Shows IsLine capture before after × (count ≡ length (frames capture)))

-- a first part of the lines of a capture was taken; of an input that is no capture nothing was
-- (this project's rule)
abbrev pub ShowsPartOfBy : (List ℕ → List ℕ → Type 0) → Option (List ℕ) → Option (List ℕ) → Option (List ℕ) → Type 0
ShowsPartOfBy IsLine None before after = after ≡ before
ShowsPartOfBy IsLine (Some capture) before after = ShowsPart IsLine capture before after

-- the same of `show`
abbrev pub ShowsText : Bool → ℕ → List ℕ → Option (List ℕ) → Option (List ℕ) → Type 0
ShowsText = ShowsTextBy IsLineOf

abbrev pub ShowsPartOf : Option (List ℕ) → Option (List ℕ) → Option (List ℕ) → Type 0
ShowsPartOf = ShowsPartOfBy IsLineOf

-- the faults that come before anything is written
abbrev pub IsBeforeOutput : ToolFault → Type 0
IsBeforeOutput Input = Unit {0}
IsBeforeOutput TooLong = Unit {0}
IsBeforeOutput NotHex = Unit {0}
IsBeforeOutput OutOfMemory = ⊥
IsBeforeOutput Output = ⊥
