-- The command `check`: what it says of a text, and the line that says it. The forms of the lines
-- are this project's rule.
use Rattle.std.specs.Prelude.{◌≡◌, ◌⊎◌, ℕ, ◌≤◌, Bool, true, false, List, [], ◌∷◌, ◌++◌, length, codes, decimal, Option}
use Rattle.rtk_frame.specs.Stream.{with_more, TakesPart}
use Rattle.rtk_rinex.specs.CauseText.{cause_text}
use Rattle.rtk_rinex.specs.declared.check_fault.CheckFault.{CheckFault}
use Rattle.rtk_commands.specs.FileTable.{HoldsFile, IsFaultOfFile, IsTextOfNoFile}
use Rattle.rtk_commands.specs.declared.file_command.TheConstants.{CHECK_LIMIT}
use Rattle.rtk_commands.specs.declared.file_answer.FileAnswer.{FileAnswer}
use Rattle.rtk_commands.specs.declared.file_answer.FileAnswer.TheVariants.{Written, NotValid}

-- formula
-- the line of a table with these numbers of records and satellite lines; a line feed ends it
abbrev pub valid_text : ℕ → ℕ → List ℕ
valid_text epochs satellites =
    codes "valid: " ++ decimal epochs ++ codes " epochs, " ++ decimal satellites ++ codes " satellite lines" ++ 10 ∷ []

-- table
-- the line of a fault; a line feed ends it
abbrev pub check_fault_text : CheckFault → List ℕ
check_fault_text fault = codes "line " ++ decimal fault.line ++ codes ": " ++ cause_text fault.cause ++ 10 ∷ []

-- a yes: the text is that of a file, and the line tells how many records and satellite lines it has
abbrev pub SaysYes : List ℕ → List ℕ → Type 0
SaysYes text line =
    (epochs : ℕ) × (satellites : ℕ) × HoldsFile text epochs satellites × (line ≡ valid_text epochs satellites)

-- a no: the text is that of no file, and the line tells its first fault
abbrev pub SaysNo : List ℕ → List ℕ → Type 0
SaysNo text line =
    (fault : CheckFault) × IsFaultOfFile text fault × IsTextOfNoFile text × (line ≡ check_fault_text fault)

-- the answer, and the line that says it of the text
abbrev pub SaysVerdict : List ℕ → Bool → List ℕ → Type 0
SaysVerdict text true line = SaysYes text line
SaysVerdict text false line = SaysNo text line

-- the same by the answer of a command of a file
abbrev pub WritesVerdict : List ℕ → FileAnswer → List ℕ → Type 0
WritesVerdict text answer line = ((answer ≡ Written) × SaysYes text line) ⊎ ((answer ≡ NotValid) × SaysNo text line)

-- the line of this answer was taken
abbrev pub Tells : List ℕ → Bool → Option (List ℕ) → Option (List ℕ) → Type 0
Tells text valid before after = (line : List ℕ) × SaysVerdict text valid line × (after ≡ with_more before line)

-- a first part of the line of an answer was taken, perhaps none or all of it
abbrev pub TellsPart : List ℕ → Option (List ℕ) → Option (List ℕ) → Type 0
TellsPart text before after = (valid : Bool) × (line : List ℕ) × SaysVerdict text valid line × TakesPart before after line

-- a text is checked: it is short enough, and the line of this answer was taken
abbrev pub ChecksText : Bool → List ℕ → Option (List ℕ) → Option (List ℕ) → Type 0
ChecksText valid text before after = (length text ≤ CHECK_LIMIT) × Tells text valid before after

-- or a first part of the line of its answer
abbrev pub ChecksPartOf : List ℕ → Option (List ℕ) → Option (List ℕ) → Type 0
ChecksPartOf text before after = (length text ≤ CHECK_LIMIT) × TellsPart text before after
