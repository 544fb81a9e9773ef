-- What is wrong with the header of a text of any systems: its first line with which no header begins, or
-- the line that is not whole.
use Rattle.std.specs.Prelude.{◌≡◌, ℕ, ◌+◌, List, [], ◌∷◌, ◌++◌}
use Rattle.rtk_obs.specs.Reading.{IsMoment}
use Rattle.rtk_rinex.specs.Header.{PositionView, IsPositionView}
use Rattle.rtk_rinex.specs.HeaderFault.{AreLines}
use Rattle.rtk_rinex.specs.Lines.{HasNoEnd}
use Rattle.rtk_rinex.specs.MixedHead.{MixedHeadView, IsMixedHead}
use Rattle.rtk_rinex.specs.MixedHeader.{mixed_header_text}
use Rattle.rtk_rinex.specs.declared.check_fault.CheckFault.{CheckFault}
use Rattle.rtk_rinex.specs.declared.check_fault.Cause.{Cause}
use Rattle.rtk_rinex.specs.declared.check_fault.Cause.TheVariants.{HeaderLine, Truncated}

-- formula
-- the header of a good head of any systems, a good position and a moment
abbrev pub IsMixedHeader : List ℕ → Type 0
IsMixedHeader text =
    (h : MixedHeadView) × (s : PositionView) × (first : ℕ) × IsMixedHead h × IsPositionView s × IsMoment first × (text ≡ mixed_header_text h s first)

-- some header begins with this text
abbrev pub BeginsMixedHeader : List ℕ → Type 0
BeginsMixedHeader text = (rest : List ℕ) × IsMixedHeader (text ++ rest)

-- the text begins with some header
abbrev pub BeginsWithMixedHeader : List ℕ → Type 0
BeginsWithMixedHeader text = (header : List ℕ) × (rest : List ℕ) × IsMixedHeader header × (text ≡ header ++ rest)

-- the text begins with the header of these parts, and with no other
abbrev pub IsOnlyMixedHeader : List ℕ → MixedHeadView → PositionView → ℕ → Type 0
IsOnlyMixedHeader bytes head site first =
    (h : MixedHeadView) (s : PositionView) (f : ℕ) (rest : List ℕ) → IsMixedHead h → IsPositionView s → IsMoment f
    → bytes ≡ mixed_header_text h s f ++ rest → (h ≡ head) × (s ≡ site) × (f ≡ first)

-- formula
-- what is wrong with the next line, which begins `rest`: no LF ends it; or no header begins with the
-- lines before it and this one
abbrev pub IsMixedLineFault : List ℕ → List ℕ → Cause → Type 0
IsMixedLineFault front rest Truncated = HasNoEnd rest
IsMixedLineFault front rest HeaderLine =
    (line : List ℕ) × (more : List ℕ) × HasNoEnd line × (rest ≡ line ++ 10 ∷ more) × ¬ (BeginsMixedHeader (front ++ line ++ 10 ∷ []))
IsMixedLineFault front rest _ = ⊥

-- a fault in the line after n lines, which begin a header and are not a whole one
abbrev pub IsMixedFaultAfter : ℕ → List ℕ → Cause → Type 0
IsMixedFaultAfter n bytes cause =
    (front : List ℕ) × (rest : List ℕ) × AreLines n front × (bytes ≡ front ++ rest) × BeginsMixedHeader front × ¬ (IsMixedHeader front)
    × IsMixedLineFault front rest cause

-- formula
-- the fault is in the header; its line counts from 1
abbrev pub IsFaultOfMixedHeader : List ℕ → CheckFault → Type 0
IsFaultOfMixedHeader bytes f = (n : ℕ) × (f.line ≡ n + 1) × IsMixedFaultAfter n bytes f.cause
