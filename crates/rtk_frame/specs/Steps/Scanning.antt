-- What is at the front of a text, and up to which place it was scanned.
use Rattle.std.specs.Prelude.{◌≡◌, ◌⊎◌, ℕ, ◌+◌, ◌<◌, ◌≤◌, ◌==◌, true, false, List, [], ◌∷◌, ◌++◌, length, take, drop}
use Rattle.rtk_frame.specs.Checksum.{crc}
use Rattle.rtk_frame.specs.Frame.{three_bytes, payload_length, begins_frame, begins_partial}
use Rattle.rtk_frame.specs.declared.frame.TheConstants.{LONGEST_FRAME}
use Rattle.rtk_frame.specs.declared.frame.Front.{Front}
use Rattle.rtk_frame.specs.declared.frame.Front.TheVariants.{Whole, Partial, Other}
use Rattle.rtk_frame.specs.declared.frame.Start.{Start}
use Rattle.rtk_frame.specs.declared.frame.Start.TheVariants.{Candidate, Partial as PartialStart, Other as NoStart}

-- what a text begins with, but for the checksum: a candidate with a payload of n bytes, a partial
-- frame, which is shorter than the longest frame, or neither
abbrev pub IsStart : List ℕ → Start → Type 0
IsStart text (Candidate n) = (n ≡ payload_length text) × (n ≤ 1023) × (n + 6 ≤ length text) × (begins_frame text ≡ (crc (take (n + 3) text) == three_bytes (drop (n + 3) text))) × (begins_partial text ≡ false)
IsStart text PartialStart = (length text < LONGEST_FRAME) × ((begins_partial text ≡ true) ⊎ (text ≡ []))
IsStart text NoStart = (0 < length text) × (begins_frame text ≡ false) × (begins_partial text ≡ false)

-- what is at the front of a text: a frame with a payload of n bytes, a partial frame, which is
-- shorter than the longest frame, or neither; an empty text counts as partial
abbrev pub IsFront : List ℕ → Front → Type 0
IsFront text (Whole n) = (begins_frame text ≡ true) × (n ≡ payload_length text) × (n ≤ 1023)
IsFront text Partial = (length text < LONGEST_FRAME) × ((begins_partial text ≡ true) ⊎ (text ≡ []))
IsFront text Other = (0 < length text) × (begins_frame text ≡ false) × (begins_partial text ≡ false)

-- no frame and no partial frame begins in the front, which stands before the text
abbrev pub Passed : List ℕ → List ℕ → Type 0
Passed [] text = Unit {0}
Passed (x ∷ front) text = (begins_frame (x ∷ (front ++ text)) ≡ false) × (begins_partial (x ∷ (front ++ text)) ≡ false) × Passed front text

-- the text was scanned up to a suffix
pub record Scanned (text suffix : List ℕ) : Type 0 where
  pub front : List ℕ
  pub is : text ≡ front ++ suffix
  pub passed : Passed front suffix

-- no frame begins in the front, which stands before the text
abbrev pub FrameFree : List ℕ → List ℕ → Type 0
FrameFree [] text = Unit {0}
FrameFree (x ∷ front) text = (begins_frame (x ∷ (front ++ text)) ≡ false) × FrameFree front text

-- the text was searched for frames up to a suffix
pub record Searched (text suffix : List ℕ) : Type 0 where
  pub front : List ℕ
  pub is : text ≡ front ++ suffix
  pub none : FrameFree front suffix
