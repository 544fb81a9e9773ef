-- Laws of the plan.
use Rattle.std.specs.Prelude.{◌≡◌, ◌<◌, ℕ, ◌%◌, ◌==◌, Bool, List, ◌++◌, length, count_by, flat_map, Option, if◌then◌else◌}
use Rattle.std.specs.Borrow.{Bor}
use Rattle.rtk_setup.specs.Setup.{SetupView}
use Rattle.rtk_survey.specs.declared.survey.CaptureSurvey.{CaptureSurvey}
use Rattle.rtk_plan.specs.KnownLines.{skipped_line, lines_behind_late, known_lines}
use Rattle.rtk_captures.specs.Kept.{is_heard_at, empty_captures}
use Rattle.rtk_plan.specs.LinkPlaces.{AreLinksOf}
use Rattle.rtk_captures.specs.Dating.{captures_of, AreStrays}
use Rattle.rtk_plan.specs.Plan.{IsSetupFor}
use Rattle.rtk_plan.specs.declared.known_lines.Known.{Known}
use Rattle.rtk_plan.specs.declared.planning.Plan.{Plan}
use Rattle.rtk_captures.specs.declared.station_capture.StationCapture.{StationCapture}
use Rattle.rtk_plan.specs.declared.wanted.Wanted.{Wanted}

-- ---- one plan

-- the parts of a plan: its setup, its links, the captures that are left out, and those with a stray epoch
pub record IsPlanOf (ss : List CaptureSurvey) (w : Wanted) (made : ℕ) (as_given : Bool) (s : SetupView) (chosen : List (List ℕ)) (left strayed : List ℕ) : Type 0 where
  pub setup : IsSetupFor ss chosen w made s
  pub links : AreLinksOf as_given w.near ss s.station chosen
  pub skipped : left ≡ empty_captures (captures_of ss s.station)
  pub strays : AreStrays w.near (captures_of ss s.station) strayed

-- the surveys of captures and the words decide it
abbrev pub OnePlan : Type 0
OnePlan = (ss : List CaptureSurvey) (w : Wanted) (made : ℕ) (as_given : Bool) (s t : SetupView) (links others : List (List ℕ)) (skipped left strays strayed : List ℕ)
    → IsPlanOf ss w made as_given s links skipped strays → IsPlanOf ss w made as_given t others left strayed
    → (s ≡ t) × (links ≡ others) × (skipped ≡ left) × (strays ≡ strayed)

-- the moment near which a plan dates is a whole second, so the command that is said, which tells seconds, tells
-- all of it
abbrev pub NearIsWholeSecond : Type 0
NearIsWholeSecond = (ss : List CaptureSurvey) (links : List (List ℕ)) (w : Wanted) (made : ℕ) (s : SetupView) → IsSetupFor ss links w made s → s.near % 1000 ≡ 0

-- ---- which captures are taken

-- how often a place stands in a list
abbrev pub times : ℕ → List ℕ → ℕ
times place places = count_by (λ p. p == place) places

abbrev pub own_places : List ℕ → List ℕ
own_places link = link

-- how often links take the capture at a place
abbrev pub times_taken : ℕ → List (List ℕ) → ℕ
times_taken place links = times place (flat_map own_places links)

-- a capture that has something of the station is taken once, on one link; no other is taken
abbrev pub EachIsTakenOnce : Type 0
EachIsTakenOnce = (as_given : Bool) (given : Option ℕ) (ss : List CaptureSurvey) (station : ℕ) (links : List (List ℕ)) → AreLinksOf as_given given ss station links
    → (place : ℕ) → place < length (captures_of ss station) → times_taken place links ≡ (if is_heard_at (captures_of ss station) place then 1 else 0)

-- a capture that has nothing of the station is left out; no other is
abbrev pub EachIsLeftOutOnce : Type 0
EachIsLeftOutOnce = (cs : List StationCapture) (place : ℕ) → place < length cs → times place (empty_captures cs) ≡ (if is_heard_at cs place then 0 else 1)

-- ---- what is told

abbrev pub IsInText : List ℕ → List ℕ → Type 0
IsInText part text = (before : List ℕ) × (after : List ℕ) × (text ≡ before ++ part ++ after)

-- a capture that is left out has its line in what a person is told of the conversion
abbrev pub LeftOutIsTold : Type 0
LeftOutIsTold = (names : List (Bor (List ℕ))) (ss : List CaptureSurvey) (plan : Plan) (known : Known) (late by_stray place : ℕ)
    → known.last.items ≡ lines_behind_late names ss plan → 0 < times place plan.skipped.items
    → IsInText (skipped_line names plan.captures.items place) (known_lines known late by_stray)
