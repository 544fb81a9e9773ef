-- What `check` answers, which keeps the text of the table: memory may be refused for a line of it.
use Rattle.std.specs.Prelude.{◌≡◌, ◌≢◌, ℕ, ◌+◌, List, [], ◌++◌, Result, Ok, Err}
use Rattle.rtk_rinex.specs.Table.{WellFormedTable, IsWellFormedTable, table_text}
use Rattle.rtk_rinex.specs.HeaderFault.{AreLines}
use Rattle.rtk_rinex.specs.CheckTable.{TableView, HoldsTable, IsFault, table_view}
use Rattle.rtk_rinex.specs.declared.check_fault.Cause.TheVariants.{OutOfMemory}
use Rattle.rtk_rinex.specs.declared.check_fault.CheckFault.{CheckFault}

-- the text of a well-formed table
abbrev pub IsTextOfTable : List ℕ → Type 0
IsTextOfTable bytes = (t : WellFormedTable) × IsWellFormedTable t × (bytes ≡ table_text t)

-- formula
-- the text has a line of this number, from 1: whole lines stand before it, and it is not empty
abbrev pub HasLine : List ℕ → ℕ → Type 0
HasLine bytes line =
    (n : ℕ) × (front : List ℕ) × (rest : List ℕ) × (line ≡ n + 1) × AreLines n front × (bytes ≡ front ++ rest) × (rest ≢ [])

-- an answer as clauses of `check` have it: the table of this text; or, if memory is not refused, a
-- fault of the text
abbrev pub IsKeptAnswer : List ℕ → Result TableView CheckFault → Type 0
IsKeptAnswer bytes (Ok t) = (t.text ≡ bytes) × HoldsTable bytes t.epochs t.satellites
IsKeptAnswer bytes (Err fault) = fault.cause ≢ OutOfMemory → IsFault bytes fault

-- the answer is this table, or memory is refused
abbrev pub KeepsTable : WellFormedTable → Result TableView CheckFault → Type 0
KeepsTable t (Ok v) = v ≡ table_view t
KeepsTable t (Err fault) = fault.cause ≡ OutOfMemory

-- so is each answer to the text of a well-formed table
abbrev pub TextIsKept : Type 0
TextIsKept =
    (t : WellFormedTable) (answer : Result TableView CheckFault) → IsWellFormedTable t → IsKeptAnswer (table_text t) answer → KeepsTable t answer
