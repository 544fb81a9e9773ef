-- Laws of the lines of `check`: equal lines tell equal numbers and causes, as far as a u64 holds the
-- numbers.
use Rattle.std.specs.Prelude.{◌≡◌, ◌<◌, ◌^◌, ℕ, List}
use Rattle.rtk_rinex.specs.declared.check_fault.CheckFault.{CheckFault}
use Rattle.rtk_commands.specs.FileTable.{HoldsFile, IsFaultOfFile}
use Rattle.rtk_commands.specs.CheckInput.{valid_text, check_fault_text, SaysYes, SaysNo}

-- equal lines of tables tell as many records and satellite lines
abbrev pub ValidTellsNumbers : Type 0
ValidTellsNumbers =
    (epochs satellites other_epochs other_satellites : ℕ) → epochs < 2 ^ 64 → satellites < 2 ^ 64 → other_epochs < 2 ^ 64 → other_satellites < 2 ^ 64
    → valid_text epochs satellites ≡ valid_text other_epochs other_satellites → (epochs ≡ other_epochs) × (satellites ≡ other_satellites)

-- equal lines of faults tell one line and one cause
abbrev pub FaultTextTellsFault : Type 0
FaultTextTellsFault = (fault other : CheckFault) → fault.line < 2 ^ 64 → other.line < 2 ^ 64 → check_fault_text fault ≡ check_fault_text other → fault ≡ other

-- two texts to which one line says yes have as many records and satellite lines
abbrev pub YesTellsNumbers : Type 0
YesTellsNumbers =
    (text other line : List ℕ) (epochs satellites other_epochs other_satellites : ℕ)
    → HoldsFile text epochs satellites → HoldsFile other other_epochs other_satellites
    → epochs < 2 ^ 64 → satellites < 2 ^ 64 → other_epochs < 2 ^ 64 → other_satellites < 2 ^ 64
    → SaysYes text line → SaysYes other line → (epochs ≡ other_epochs) × (satellites ≡ other_satellites)

-- two texts to which one line says no have one fault
abbrev pub NoTellsFault : Type 0
NoTellsFault =
    (text other line : List ℕ) (fault other_fault : CheckFault) → IsFaultOfFile text fault → IsFaultOfFile other other_fault
    → fault.line < 2 ^ 64 → other_fault.line < 2 ^ 64 → SaysNo text line → SaysNo other line → fault ≡ other_fault

-- no line says yes to one text and no to another
abbrev pub NoLineSaysBoth : Type 0
NoLineSaysBoth = (text other line : List ℕ) → SaysYes text line → SaysNo other line → ⊥
