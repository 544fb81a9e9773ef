-- Laws on the file of arrivals. Lists of arrivals and of found frames are newest first.
use Rattle.std.specs.Prelude.{◌≡◌, ◌↔◌, ℕ, List, [], ◌∷◌, ◌++◌, Some, All}
use Rattle.rtk_collect.specs.Arrival.{Arrival}
use Rattle.rtk_collect.specs.Accepted.{kept, closed, IsTaken, IsConsistent}
use Rattle.rtk_collect.specs.Laws.{without_late}
use Rattle.rtk_collect.specs.Signals.{signals}
use Rattle.rtk_convert.specs.declared.frame_class.FrameClass.{FrameClass}
use Rattle.rtk_convert.specs.declared.frame_class.FrameClass.TheVariants.{OtherMessage, Refused, Foreign, Dated}
use Rattle.rtk_convert.specs.File.{first_time, header_of}
use Rattle.rtk_convert.specs.FileLaws.{IsTextOfTable}
use Rattle.rtk_convert.specs.FileOfArrivals.{site_of_kept, kept_file, file_so_far}
use Rattle.rtk_convert.specs.FrameClass.{IsClassOfPayload, Found, arrivals}
use Rattle.rtk_setup.specs.Setup.{SetupView, IsSetupView, cells_by}
use Rattle.rtk_convert.specs.Conversion.{found_on, AddsToOne}

-- two lists of consistent arrivals with the same arrivals in time have the same file
abbrev pub OneSetHasOneFile : Type 0
OneSetHasOneFile =
    (s : SetupView) (first second : List Arrival) → IsConsistent signals (cells_by s) s.window first → IsConsistent signals (cells_by s) s.window second
    → ((a : Arrival) → IsTaken s.window a first ↔ IsTaken s.window a second) → kept_file s first ≡ kept_file s second

-- with all late arrivals deleted the file is the same
abbrev pub LateLeaveFile : Type 0
LateLeaveFile = (s : SetupView) (before : List Arrival) → kept_file s (without_late s.window before) ≡ kept_file s before

abbrev pub Begins : List ℕ → List ℕ → Type 0
Begins text whole = (rest : List ℕ) × (whole ≡ text ++ rest)

-- the file so far begins the file so far after more arrivals, and the whole file of all these
-- arrivals
abbrev pub SoFarBegins : Type 0
SoFarBegins =
    (s : SetupView) (later before : List Arrival) → Begins (file_so_far s before) (file_so_far s (later ++ before))
    × Begins (file_so_far s before) (kept_file s (later ++ before))

-- once a closed epoch has a record the header stays
abbrev pub HeaderIsFinal : Type 0
HeaderIsFinal =
    (s : SetupView) (a : Arrival) (before : List Arrival) (t : ℕ) → first_time s.head.doppler s.head.listed (closed signals (cells_by s) s.window before) ≡ Some t
    → header_of s (site_of_kept s.window (a ∷ before)) (kept signals (cells_by s) s.window (a ∷ before)) ≡ header_of s (site_of_kept s.window before) (kept signals (cells_by s) s.window before)

abbrev pub and_if_arrived : Found → FrameClass → List Found → List Found
and_if_arrived f OtherMessage before = before
and_if_arrived f (Refused fault) before = before
and_if_arrived f Foreign before = before
and_if_arrived f (Dated a) before = f ∷ before

-- the found frames that are dated messages of the chosen station, without all others
abbrev pub only_arrived : List Found → List Found
only_arrived [] = []
only_arrived (f ∷ before) = and_if_arrived f f.class (only_arrived before)

-- with all others deleted the arrivals are the same, and so is the file
abbrev pub OthersLeaveFile : Type 0
OthersLeaveFile =
    (s : SetupView) (found : List Found) → (arrivals (only_arrived found) ≡ arrivals found) × (kept_file s (arrivals (only_arrived found)) ≡ kept_file s (arrivals found))

-- a found frame has a payload of its class
abbrev pub HasPayload : SetupView → Found → Type 0
HasPayload s f = (payload : List ℕ) × IsClassOfPayload s payload f.class

-- the file of found frames, whatever their payloads, is the text of a well-formed table, which the
-- checker accepts
abbrev pub KeptFileIsTable : Type 0
KeptFileIsTable =
    (s : SetupView) (found : List Found) → IsSetupView s → All (HasPayload s) found → IsTextOfTable (kept_file s (arrivals found))

-- what a frame adds goes to the file or to the report, never to both
abbrev pub FrameAddsToOne : Type 0
FrameAddsToOne = (s : SetupView) (payload : List ℕ) (f : FrameClass) (link : ℕ) (before : List Found) → IsClassOfPayload s payload f → AddsToOne s (found_on link f) before
