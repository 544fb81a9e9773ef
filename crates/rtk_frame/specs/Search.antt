-- What a search for the next frame of a text answers.
use Rattle.std.specs.Prelude.{◌≡◌, ℕ, ◌<◌, ◌≤◌, List, drop, Option, Some, None}
use Rattle.rtk_frame.specs.Frame.{IsFrameAt, payload_of}
use Rattle.rtk_frame.specs.declared.search.Placed.{Placed}

-- it is the first frame that begins at the place `from` or after it, or there is no such frame
abbrev pub IsNextFrame : List ℕ → ℕ → Option Placed → Type 0
IsNextFrame text from None = (p : ℕ) → from ≤ p → IsFrameAt text p → ⊥
IsNextFrame text from (Some found) =
    (from ≤ found.place) × IsFrameAt text found.place
    × (found.payload.now ≡ payload_of (drop found.place text))
    × ((p : ℕ) → from ≤ p → p < found.place → IsFrameAt text p → ⊥)
