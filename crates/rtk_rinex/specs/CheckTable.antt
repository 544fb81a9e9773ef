-- The well-formed table whose text a text is, or the fault of the text.
use Rattle.std.specs.Prelude.{◌≡◌, ◌≢◌, ℕ, List, ◌++◌, length, ◌⊎◌, Result, Ok, Err}
use Rattle.rtk_obs.specs.Reading.{IsMoment}
use Rattle.rtk_rinex.specs.Header.{HeadView, PositionView, IsHeadView, IsPositionView, header_text}
use Rattle.rtk_rinex.specs.Table.{WellFormedTable, IsWellFormedTable, table_text}
use Rattle.rtk_rinex.specs.HeaderFault.{AreLines, IsFaultOfHeader}
use Rattle.rtk_rinex.specs.CheckText.{satellite_lines, IsFaultOfRecords}
use Rattle.rtk_rinex.specs.declared.check_fault.CheckFault.{CheckFault}

-- the text is the text of exactly one well-formed table, which has this number of records and of
-- satellite lines
pub record HoldsTable (bytes : List ℕ) (records lines : ℕ) : Type 0 where
  pub table : WellFormedTable
  pub is_table : IsWellFormedTable table
  pub text : bytes ≡ table_text table
  pub only : (other : WellFormedTable) → IsWellFormedTable other → bytes ≡ table_text other → other ≡ table
  pub epochs : length table.epochs ≡ records
  pub satellites : satellite_lines table.epochs ≡ lines

-- a text, and its numbers of records and of satellite lines
pub record TableView : Type 0 where
  pub text : List ℕ
  pub epochs : ℕ
  pub satellites : ℕ

-- it is the text of some well-formed table, with these numbers
abbrev pub IsTableView : TableView → Type 0
IsTableView t = ∥ HoldsTable t.text t.epochs t.satellites ∥₁

-- the text begins with a good header of `lines` lines; the fault is in the records
pub record IsFaultAfterHeader (bytes : List ℕ) (fault : CheckFault) : Type 0 where
  pub head : HeadView
  pub site : PositionView
  pub first : ℕ
  pub rest : List ℕ
  pub lines : ℕ
  pub heading : IsHeadView head
  pub good_site : IsPositionView site
  pub moment : IsMoment first
  pub text : bytes ≡ header_text head site first ++ rest
  pub are_lines : AreLines lines (header_text head site first)
  pub records : IsFaultOfRecords (length head.listed) first lines rest fault

-- formula
-- the first fault of a text
abbrev pub IsFault : List ℕ → CheckFault → Type 0
IsFault bytes fault = IsFaultOfHeader bytes fault ⊎ IsFaultAfterHeader bytes fault

-- the text is the text of no well-formed table
abbrev pub IsWithoutTable : List ℕ → Type 0
IsWithoutTable bytes = (t : WellFormedTable) → IsWellFormedTable t → bytes ≢ table_text t

-- two faults of one text are the same line and cause
abbrev pub OneFault : Type 0
OneFault = (bytes : List ℕ) (f g : CheckFault) → IsFault bytes f → IsFault bytes g → f ≡ g

-- a text with a fault is the text of no well-formed table
abbrev pub FaultMeansNoTable : Type 0
FaultMeansNoTable = (bytes : List ℕ) (f : CheckFault) → IsFault bytes f → IsWithoutTable bytes

-- two well-formed tables of one text are equal
abbrev pub OneTable : Type 0
OneTable = (t u : WellFormedTable) → IsWellFormedTable t → IsWellFormedTable u → table_text t ≡ table_text u → t ≡ u

-- what is seen of a well-formed table by its text
abbrev pub table_view : WellFormedTable → TableView
table_view t = record { text = table_text t; epochs = length t.epochs; satellites = satellite_lines t.epochs }

-- an answer as clauses of `check_text` have it: the table of this text, or a fault of the text
abbrev pub IsAnswerTo : List ℕ → Result TableView CheckFault → Type 0
IsAnswerTo bytes (Ok t) = (t.text ≡ bytes) × HoldsTable bytes t.epochs t.satellites
IsAnswerTo bytes (Err fault) = IsFault bytes fault

-- the answer is this table
abbrev pub AnswersTable : WellFormedTable → Result TableView CheckFault → Type 0
AnswersTable t (Ok v) = v ≡ table_view t
AnswersTable t (Err fault) = ⊥

-- so is each answer to the text of a well-formed table
abbrev pub TextIsAccepted : Type 0
TextIsAccepted =
    (t : WellFormedTable) (answer : Result TableView CheckFault) → IsWellFormedTable t → IsAnswerTo (table_text t) answer → AnswersTable t answer
