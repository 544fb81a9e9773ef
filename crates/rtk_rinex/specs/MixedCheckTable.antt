-- The well-formed table of any systems whose text a text is, or the fault of the text.
use Rattle.std.specs.Prelude.{◌≡◌, ◌≢◌, ℕ, List, ◌++◌, length, ◌⊎◌, Result, Ok, Err}
use Rattle.rtk_obs.specs.Reading.{IsMoment}
use Rattle.rtk_rinex.specs.Header.{PositionView, IsPositionView}
use Rattle.rtk_rinex.specs.HeaderFault.{AreLines}
use Rattle.rtk_rinex.specs.CheckText.{satellite_lines}
use Rattle.rtk_rinex.specs.CheckTable.{TableView}
use Rattle.rtk_rinex.specs.MixedHead.{MixedHeadView, IsMixedHead}
use Rattle.rtk_rinex.specs.MixedHeader.{mixed_header_text}
use Rattle.rtk_rinex.specs.MixedHeaderFault.{IsFaultOfMixedHeader}
use Rattle.rtk_rinex.specs.MixedForm.{form_of_head}
use Rattle.rtk_rinex.specs.MixedTable.{MixedTable, IsMixedTable, mixed_table_text}
use Rattle.rtk_rinex.specs.MixedCheckText.{IsFaultOfMixedRecords}
use Rattle.rtk_rinex.specs.declared.check_fault.CheckFault.{CheckFault}

-- the text is the text of exactly one well-formed table of any systems, which has this number of records
-- and of satellite lines
pub record HoldsMixedTable (bytes : List ℕ) (records lines : ℕ) : Type 0 where
  pub table : MixedTable
  pub is_table : IsMixedTable table
  pub text : bytes ≡ mixed_table_text table
  pub only : (other : MixedTable) → IsMixedTable other → bytes ≡ mixed_table_text other → other ≡ table
  pub epochs : length table.epochs ≡ records
  pub satellites : satellite_lines table.epochs ≡ lines

-- it is the text of some well-formed table, with these numbers
abbrev pub IsMixedTableView : TableView → Type 0
IsMixedTableView t = ∥ HoldsMixedTable t.text t.epochs t.satellites ∥₁

-- the text begins with a good header of `lines` lines; the fault is in the records
pub record IsFaultAfterMixedHeader (bytes : List ℕ) (fault : CheckFault) : Type 0 where
  pub head : MixedHeadView
  pub site : PositionView
  pub first : ℕ
  pub rest : List ℕ
  pub lines : ℕ
  pub heading : IsMixedHead head
  pub good_site : IsPositionView site
  pub moment : IsMoment first
  pub text : bytes ≡ mixed_header_text head site first ++ rest
  pub are_lines : AreLines lines (mixed_header_text head site first)
  pub records : IsFaultOfMixedRecords (form_of_head head) first lines rest fault

-- formula
-- the first fault of a text
abbrev pub IsMixedFault : List ℕ → CheckFault → Type 0
IsMixedFault bytes fault = IsFaultOfMixedHeader bytes fault ⊎ IsFaultAfterMixedHeader bytes fault

-- the text is the text of no well-formed table of any systems
abbrev pub IsWithoutMixedTable : List ℕ → Type 0
IsWithoutMixedTable bytes = (t : MixedTable) → IsMixedTable t → bytes ≢ mixed_table_text t

-- two faults of one text are the same line and cause
abbrev pub MixedOneFault : Type 0
MixedOneFault = (bytes : List ℕ) (f g : CheckFault) → IsMixedFault bytes f → IsMixedFault bytes g → f ≡ g

-- a text with a fault is the text of no well-formed table of any systems
abbrev pub MixedFaultMeansNoTable : Type 0
MixedFaultMeansNoTable = (bytes : List ℕ) (f : CheckFault) → IsMixedFault bytes f → IsWithoutMixedTable bytes

-- two well-formed tables of one text are equal
abbrev pub MixedOneTable : Type 0
MixedOneTable = (t u : MixedTable) → IsMixedTable t → IsMixedTable u → mixed_table_text t ≡ mixed_table_text u → t ≡ u

-- what is seen of a well-formed table by its text
abbrev pub mixed_table_view : MixedTable → TableView
mixed_table_view t = record { text = mixed_table_text t; epochs = length t.epochs; satellites = satellite_lines t.epochs }

-- an answer as clauses of `check_mixed_text` have it: the table of this text, or a fault of the text
abbrev pub IsMixedAnswerTo : List ℕ → Result TableView CheckFault → Type 0
IsMixedAnswerTo bytes (Ok t) = (t.text ≡ bytes) × HoldsMixedTable bytes t.epochs t.satellites
IsMixedAnswerTo bytes (Err fault) = IsMixedFault bytes fault

-- the answer is this table
abbrev pub AnswersMixedTable : MixedTable → Result TableView CheckFault → Type 0
AnswersMixedTable t (Ok v) = v ≡ mixed_table_view t
AnswersMixedTable t (Err fault) = ⊥

-- so is each answer to the text of a well-formed table
abbrev pub MixedTextIsAccepted : Type 0
MixedTextIsAccepted =
    (t : MixedTable) (answer : Result TableView CheckFault) → IsMixedTable t → IsMixedAnswerTo (mixed_table_text t) answer → AnswersMixedTable t answer
