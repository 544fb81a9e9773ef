-- The byte of a capture at which a frame begins, by how many frames come before it.
use Rattle.std.specs.Prelude.{◌≡◌, ℕ, zero, suc, List, [], ◌∷◌, Option, None, Some, option_map}
use Rattle.rtk_frame.specs.Frames.{Frame, frames}
use Rattle.rtk_frame.specs.Stream.{with_more}
use Rattle.rtk_survey.specs.Counting.{shown_count}

-- formula
-- the place of the frame that comes after so many others of these, if there are so many
abbrev pub place_after : ℕ → List Frame → Option ℕ
place_after n [] = None
place_after zero (f ∷ fs) = Some f.place
place_after (suc n) (f ∷ fs) = place_after n fs

-- a source gave some bytes, and this is the place among their frames; a number stays at the greatest u64
abbrev pub IsPlaceOfFrame : ℕ → Option (List ℕ) → Option (List ℕ) → Option ℕ → Type 0
IsPlaceOfFrame n given_old given_new found =
    (bytes : List ℕ) × (given_new ≡ with_more given_old bytes) × (found ≡ option_map shown_count (place_after n (frames bytes)))
