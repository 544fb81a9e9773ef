-- The command `cut` of some systems alone: what it writes of a text.
use Rattle.std.specs.Prelude.{◌≡◌, ◌⊎◌, ℕ, List, [], ◌∷◌, Option, None, Some}
use Rattle.rtk_message.specs.declared.system.System.{System}
use Rattle.rtk_obs.specs.declared.any_code.AnyCode.{AnyCode}
use Rattle.rtk_rinex.specs.MixedTable.{MixedTable, IsMixedTable, mixed_table_text}
use Rattle.rtk_rinex.specs.declared.check_fault.CheckFault.{CheckFault}
use Rattle.rtk_rinex.specs.declared.system_flags.SystemFlags.{SystemFlags}
use Rattle.rtk_cut.specs.declared.part.Part.{Part}
use Rattle.rtk_cut.specs.KeptSystems.{kept_codes, kept_table, first_absent}
use Rattle.rtk_label.specs.Labelled.{LabelView}
use Rattle.rtk_label.specs.declared.time_lines.TimeLines.{TimeLines}
use Rattle.rtk_commands.specs.declared.kept_part.KeptPart.{KeptPart}
use Rattle.rtk_commands.specs.declared.file_answer.FileAnswer.{FileAnswer}
use Rattle.rtk_commands.specs.declared.file_answer.FileAnswer.TheVariants.{Refused, NoneChosen, Absent}
use Rattle.rtk_commands.specs.CompareInput.{IsLabelledText, IsMixedRefused}
use Rattle.rtk_commands.specs.CutInput.{CutsTable}
use Rattle.rtk_commands.specs.FileTable.{FileTable, IsFileTable, file_text}

-- the text is that of a well-formed table of any systems
abbrev pub IsTextOfSystems : List ℕ → Type 0
IsTextOfSystems plain = (t : MixedTable) × IsMixedTable t × (plain ≡ mixed_table_text t)

-- the table whose text this is has a code of each of these systems
abbrev pub HasNoneAbsent : SystemFlags → List ℕ → Type 0
HasNoneAbsent ks plain = (t : MixedTable) → IsMixedTable t → plain ≡ mixed_table_text t → first_absent ks t.head.listed ≡ None

-- the part of the file whose text this is, with a label and with its own time lines, as far as they are asked for
abbrev pub CutsPlain : Part → List ℕ → TimeLines → LabelView → FileAnswer → List ℕ → Type 0
CutsPlain part plain w l answer bytes = (f : FileTable) × IsFileTable f × (plain ≡ file_text f) × CutsTable part f w l answer bytes

-- the part of the file with the systems that are kept, or nothing if no code is kept
abbrev pub CutsIfSome : KeptPart → MixedTable → TimeLines → LabelView → List AnyCode → FileAnswer → List ℕ → Type 0
CutsIfSome k t w l [] answer bytes = (answer ≡ NoneChosen) × (bytes ≡ [])
CutsIfSome k t w l (c ∷ cs) answer bytes = CutsPlain k.part (mixed_table_text (kept_table k.kept t)) w l answer bytes

-- or nothing if the file has no code of one of these systems
abbrev pub CutsUnless : KeptPart → MixedTable → TimeLines → LabelView → Option System → FileAnswer → List ℕ → Type 0
CutsUnless k t w l (Some system) answer bytes = (answer ≡ Absent system) × (bytes ≡ [])
CutsUnless k t w l None answer bytes = CutsIfSome k t w l (kept_codes k.kept t.head.listed) answer bytes

-- what is written of a file with a label and time lines
abbrev pub CutsKept : KeptPart → MixedTable → TimeLines → LabelView → FileAnswer → List ℕ → Type 0
CutsKept k t w l answer bytes = CutsUnless k t w l (first_absent k.kept t.head.listed) answer bytes

-- the same of the file whose text this is
abbrev pub CutsKeptOfPlain : KeptPart → List ℕ → TimeLines → LabelView → FileAnswer → List ℕ → Type 0
CutsKeptOfPlain k plain w l answer bytes = (t : MixedTable) × IsMixedTable t × (plain ≡ mixed_table_text t) × CutsKept k t w l answer bytes

-- the same of a text, which is that of a file with a label and time lines, or is refused with its first fault
abbrev pub CutsKeptOfText : KeptPart → List ℕ → FileAnswer → List ℕ → Type 0
CutsKeptOfText k text answer bytes =
    ((t : MixedTable) × (l : LabelView) × (is : IsLabelledText text t l) × CutsKept k t is.times l answer bytes)
    ⊎ ((fault : CheckFault) × (answer ≡ Refused fault) × IsMixedRefused text fault × (bytes ≡ []))
