-- What is wrong with the header of a text: its first line with which no table's text begins, or the
-- line that is not whole.
use Rattle.std.specs.Prelude.{◌≡◌, ℕ, ◌+◌, List, [], ◌∷◌, ◌++◌, length, All}
use Rattle.rtk_obs.specs.Reading.{IsMoment}
use Rattle.rtk_rinex.specs.Header.{HeadView, PositionView, IsHeadView, IsPositionView, header_text}
use Rattle.rtk_rinex.specs.Table.{WellFormedTable, IsWellFormedTable, table_text}
use Rattle.rtk_rinex.specs.Lines.{HasNoEnd, text_of}
use Rattle.rtk_rinex.specs.declared.check_fault.CheckFault.{CheckFault}
use Rattle.rtk_rinex.specs.declared.check_fault.Cause.{Cause}
use Rattle.rtk_rinex.specs.declared.check_fault.Cause.TheVariants.{HeaderLine, Truncated}

-- the header of a good head, a good position and a moment
abbrev pub IsHeader : List ℕ → Type 0
IsHeader text =
    (h : HeadView) × (s : PositionView) × (first : ℕ) × IsHeadView h × IsPositionView s × IsMoment first × (text ≡ header_text h s first)

-- some header begins with this text
abbrev pub BeginsHeader : List ℕ → Type 0
BeginsHeader text = (rest : List ℕ) × IsHeader (text ++ rest)

-- the text of some well-formed table begins with this text
abbrev pub BeginsTable : List ℕ → Type 0
BeginsTable text = (t : WellFormedTable) × (rest : List ℕ) × IsWellFormedTable t × (table_text t ≡ text ++ rest)

-- formula
-- the text has n lines, each ended by LF
abbrev pub AreLines : ℕ → List ℕ → Type 0
AreLines n text =
    (lines : List (List ℕ)) × All HasNoEnd lines × (length lines ≡ n) × (text ≡ text_of lines)

-- formula
-- what is wrong with the next line, which begins `rest`: no LF ends it; or no table's text begins
-- with the lines before it and this one
abbrev pub IsLineFault : List ℕ → List ℕ → Cause → Type 0
IsLineFault front rest Truncated = HasNoEnd rest
IsLineFault front rest HeaderLine =
    (line : List ℕ) × (more : List ℕ) × HasNoEnd line × (rest ≡ line ++ 10 ∷ more) × ¬ (BeginsTable (front ++ line ++ 10 ∷ []))
IsLineFault front rest _ = ⊥

-- a fault in the line after n lines, which begin a header and are not a whole one
abbrev pub IsFaultAfter : ℕ → List ℕ → Cause → Type 0
IsFaultAfter n bytes cause =
    (front : List ℕ) × (rest : List ℕ) × AreLines n front × (bytes ≡ front ++ rest) × BeginsHeader front × ¬ (IsHeader front)
    × IsLineFault front rest cause

-- the fault is in the header; its line counts from 1
abbrev pub IsFaultOfHeader : List ℕ → CheckFault → Type 0
IsFaultOfHeader bytes f = (n : ℕ) × (f.line ≡ n + 1) × IsFaultAfter n bytes f.cause
