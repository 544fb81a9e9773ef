-- How far a capture was looked through for a frame.
use Rattle.std.specs.Prelude.{◌≡◌, ℕ, zero, suc, ◌+◌, ◌-◌, List, ◌++◌, length, Option, None, Some}
use Rattle.rtk_frame.specs.Frames.{final_frames, pending}
use Rattle.rtk_survey.specs.declared.frame_place.Looking.{Looking}

-- the place of a frame, if no other comes before the one that is looked for
abbrev pub place_if_last : ℕ → ℕ → Option ℕ
place_if_last zero place = Some place
place_if_last (suc n) place = None

-- a frame more came
abbrev pub looked : Looking → Looking
looked l = record { before = l.before - 1; fed = l.fed }

-- a piece came after these pending bytes, and all its frames come before the one that is looked for: before, after
pub record LooksThrough (old : Looking) (waiting piece : List ℕ) (new : Looking) (waits : List ℕ) : Type 0 where
  pub before : new.before + length (final_frames (waiting ++ piece)) ≡ old.before
  pub fed : new.fed ≡ old.fed + length piece
  pub pending : waits ≡ pending (waiting ++ piece)
