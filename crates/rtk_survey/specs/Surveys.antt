-- The survey of a capture, from its bytes and its frames. Lists of frames are newest first.
use Rattle.std.specs.Prelude.{◌≡◌, ℕ, ◌==◌, List, length, map, take, Option, None, Some, if◌then◌else◌}
use Rattle.std.specs.declared.vec.Vec.{Vec}
use Rattle.rtk_frame.specs.Stream.{with_more}
use Rattle.rtk_survey.specs.Contents.{HoldsFrames}
use Rattle.rtk_survey.specs.Counting.{shown_count}
use Rattle.rtk_survey.specs.Look.{look_of}
use Rattle.rtk_survey.specs.ReadFrames.{ReadFrame, ReadsFrames}
use Rattle.rtk_survey.specs.Summary.{AreFramesOf}
use Rattle.rtk_survey.specs.declared.contents.Contents.{Contents}
use Rattle.rtk_survey.specs.declared.look.Look.{Look}
use Rattle.rtk_survey.specs.declared.survey.CaptureSurvey.{CaptureSurvey}
use Rattle.rtk_survey.specs.declared.target.Target.{Target}

-- constant
-- what a capture looks like by its first 512 bytes, if it has no frame
abbrev pub look_if_empty : ℕ → List ℕ → Option Look
look_if_empty frames bytes = if frames == 0 then Some (look_of (take 512 bytes)) else None

-- the survey of a capture with these bytes and these frames, for a station if it is asked for
pub record IsSurveyOf (q : Option Target) (bytes : List ℕ) (fs : List ReadFrame) (s : CaptureSurvey) : Type 0 where
  pub size : s.bytes ≡ shown_count (length bytes)
  pub look : s.look ≡ look_if_empty (length fs) bytes
  pub contents : HoldsFrames q fs s.contents

-- a source gave some bytes, and this is their survey: before, after of the source
abbrev pub Surveys : Option Target → Option (List ℕ) → Option (List ℕ) → CaptureSurvey → Type 0
Surveys q given_old given_new survey =
    (bytes : List ℕ) × (fs : List ReadFrame) × (given_new ≡ with_more given_old bytes) × AreFramesOf bytes fs × IsSurveyOf q bytes fs survey

-- frames with these payloads more are held: before, after
abbrev pub HoldsMore : List (List ℕ) → Contents → Contents → Type 0
HoldsMore payloads old new =
    (q : Option Target) (before : List ReadFrame) → HoldsFrames q before old
    → (after : List ReadFrame) × ReadsFrames payloads before after × HoldsFrames q after new

-- ---- captures among others

-- links of captures: of each capture its place among all, from 0
abbrev pub places_of : {A : Type 0} → List (Vec ℕ A) → List (List ℕ)
places_of links = map (λ link. link.items) links
