-- The header with which a text begins, one at most, and the header that a text shows.
use Rattle.std.specs.Prelude.{◌≡◌, ◌≢◌, ℕ, ◌+◌, List, ◌∷◌, ◌++◌, length, All}
use Rattle.rtk_obs.specs.Reading.{IsMoment}
use Rattle.rtk_rinex.specs.Header.{HeadView, PositionView, IsHeadView, IsPositionView, header_text}
use Rattle.rtk_rinex.specs.HeaderFault.{IsHeader, BeginsHeader}
use Rattle.rtk_rinex.specs.Lines.{HasNoEnd, text_of}
use Rattle.rtk_rinex.specs.declared.check_fault.Cause.{Cause}
use Rattle.rtk_rinex.specs.declared.check_fault.Cause.TheVariants.{HeaderLine, Truncated}
use Rattle.rtk_rinex.specs.declared.check_fault.CheckFault.{CheckFault}

-- the text begins with some header
abbrev pub HasHeader : List ℕ → Type 0
HasHeader text = (header : List ℕ) × (rest : List ℕ) × IsHeader header × (text ≡ header ++ rest)

-- a text begins with this header, and with no other
abbrev pub IsOnlyHeader : List ℕ → HeadView → PositionView → ℕ → Type 0
IsOnlyHeader bytes head site first =
    (h : HeadView) (s : PositionView) (f : ℕ) (rest : List ℕ) → IsHeadView h → IsPositionView s → IsMoment f → bytes ≡ header_text h s f ++ rest
    → (h ≡ head) × (s ≡ site) × (f ≡ first)

-- whatever lines of a header begin the text, begin what is written too
abbrev pub ShowsHeader : List ℕ → List ℕ → Type 0
ShowsHeader text written =
    (lines : List (List ℕ)) (rest : List ℕ) → All HasNoEnd lines → BeginsHeader (text_of lines) → text ≡ text_of lines ++ rest
    → (more : List ℕ) × (written ≡ text_of lines ++ more)

-- n lines begin both texts, and these rests follow
pub record BeginAlike (n : ℕ) (text other rest other_rest : List ℕ) : Type 0 where
  pub lines : List (List ℕ)
  pub are_lines : All HasNoEnd lines
  pub size : length lines ≡ n
  pub begins : text ≡ text_of lines ++ rest
  pub other_begins : other ≡ text_of lines ++ other_rest

-- why a line is not the one that is wanted: it has no end, or it is another one
abbrev pub IsLineCause : List ℕ → Cause → Type 0
IsLineCause rest Truncated = HasNoEnd rest
IsLineCause rest HeaderLine = (line : List ℕ) × (more : List ℕ) × HasNoEnd line × (rest ≡ line ++ 10 ∷ more)
IsLineCause rest _ = ⊥

-- the first line of what is written that the text does not have
pub record IsUnlike (text written : List ℕ) (fault : CheckFault) : Type 0 where
  pub before : ℕ
  pub rest : List ℕ
  pub line : List ℕ
  pub more : List ℕ
  pub number : fault.line ≡ before + 1
  pub alike : BeginAlike before text written rest (line ++ 10 ∷ more)
  pub is_line : HasNoEnd line
  pub unlike : (after : List ℕ) → rest ≢ line ++ 10 ∷ after
  pub cause : IsLineCause rest fault.cause
