-- The history of a converter: the bytes that were fed on each link, and the frames that were found
-- (this project's rule).
use Rattle.std.specs.Prelude.{◌≡◌, ℕ, zero, suc, ◌<◌, ◌≤◌, ◌==◌, if◌then◌else◌, Bool, true, false, List, [], ◌∷◌, ◌++◌, length, drop, max, replicate, slice_get, Option, None, Some}
use Rattle.rtk_frame.specs.Frames.{frames, final_frames, payloads}
use Rattle.rtk_collect.specs.Arrival.{epoch_of}
use Rattle.rtk_convert.specs.declared.frame_class.FrameClass.{FrameClass}
use Rattle.rtk_convert.specs.declared.frame_class.FrameClass.TheVariants.{OtherMessage, Refused, Foreign, Dated}
use Rattle.rtk_convert.specs.FrameClass.{Found, IsClassOfPayload}
use Rattle.rtk_setup.specs.Setup.{SetupView}
use Rattle.rtk_convert.specs.Conversion.{found_on}

-- the bytes that were fed on a link, and whether it is closed
pub record LinkPast : Type 0 where
  pub fed : List ℕ
  pub is_closed : Bool

-- the links, and the frames found on them, newest first
pub record History : Type 0 where
  pub links : List LinkPast
  pub found : List Found

-- nothing was fed on any of n links
abbrev pub new_history : ℕ → History
new_history n = record { links = replicate n (record { fed = []; is_closed = false }); found = [] }

-- ---- what a call finds

-- the payloads that a piece finds after these bytes: the payloads of the final frames, without the
-- frames that were found before
abbrev pub found_by_piece : List ℕ → List ℕ → List (List ℕ)
found_by_piece fed piece = drop (length (final_frames fed)) (payloads (final_frames (fed ++ piece)))

-- the payloads that a close finds: the payloads of all frames, without the final frames, which were
-- found before
abbrev pub found_by_close : List ℕ → List (List ℕ)
found_by_close fed = drop (length (final_frames fed)) (payloads (frames fed))

-- frames with these payloads are found on a link, one after another, after the frames `before`
abbrev pub Finds : SetupView → ℕ → List (List ℕ) → List Found → List Found → Type 0
Finds s link [] before after = after ≡ before
Finds s link (p ∷ ps) before after = (f : FrameClass) × IsClassOfPayload s p f × Finds s link ps (found_on link f ∷ before) after

-- ---- links

-- all bytes fed on a link
abbrev pub fed_on : ℕ → List LinkPast → List ℕ
fed_on k [] = []
fed_on zero (p ∷ ps) = p.fed
fed_on (suc k) (p ∷ ps) = fed_on k ps

-- the links after one more piece on one of them
abbrev pub with_piece : ℕ → List ℕ → List LinkPast → List LinkPast
with_piece k piece [] = []
with_piece zero piece (p ∷ ps) = record { fed = p.fed ++ piece; is_closed = p.is_closed } ∷ ps
with_piece (suc k) piece (p ∷ ps) = p ∷ with_piece k piece ps

-- the links after one of them is closed
abbrev pub with_closed : ℕ → List LinkPast → List LinkPast
with_closed k [] = []
with_closed zero (p ∷ ps) = record { fed = p.fed; is_closed = true } ∷ ps
with_closed (suc k) (p ∷ ps) = p ∷ with_closed k ps

-- there is such a link, and it is open
abbrev pub IsOpen : History → ℕ → Type 0
IsOpen h link = (fed : List ℕ) × (slice_get h.links link ≡ Some (record { fed = fed; is_closed = false }))

-- the history after one more piece on an open link
pub record IsAfterFeed (s : SetupView) (h : History) (link : ℕ) (piece : List ℕ) (next : History) : Type 0 where
  pub links : next.links ≡ with_piece link piece h.links
  pub found : Finds s link (found_by_piece (fed_on link h.links) piece) h.found next.found

-- the history after an open link is closed
pub record IsAfterClose (s : SetupView) (h : History) (link : ℕ) (next : History) : Type 0 where
  pub links : next.links ≡ with_closed link h.links
  pub found : Finds s link (found_by_close (fed_on link h.links)) h.found next.found

-- ---- the newest epoch of a link

-- the observation epoch of a message of the chosen station
abbrev pub epoch_found : FrameClass → Option ℕ
epoch_found OtherMessage = None
epoch_found (Refused fault) = None
epoch_found Foreign = None
epoch_found (Dated a) = epoch_of a

-- the greater of two epochs
abbrev pub later_of : Option ℕ → Option ℕ → Option ℕ
later_of None b = b
later_of (Some a) None = Some a
later_of (Some a) (Some b) = Some (max a b)

-- formula
-- the greatest observation epoch that came on a link, whether the message is late or not
abbrev pub newest_on : ℕ → List Found → Option ℕ
newest_on link [] = None
newest_on link (f ∷ before) = if f.link == link then later_of (epoch_found f.class) (newest_on link before) else newest_on link before

-- ---- the order of reading

-- an epoch is at most another one; `None` is at most every epoch
abbrev pub IsUpTo : Option ℕ → Option ℕ → Type 0
IsUpTo None b = Unit {0}
IsUpTo (Some a) None = ⊥
IsUpTo (Some a) (Some b) = a ≤ b

-- formula
-- the link that is read next: the open link with the least newest epoch; if several have the same
-- one, the lowest of them
pub record IsNextLink (h : History) (link : ℕ) : Type 0 where
  pub is_open : IsOpen h link
  pub least : (other : ℕ) → IsOpen h other → IsUpTo (newest_on link h.found) (newest_on other h.found)
  pub lowest : (other : ℕ) → other < link → IsOpen h other → ¬ (IsUpTo (newest_on other h.found) (newest_on link h.found))
