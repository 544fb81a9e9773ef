-- What a converter represents: a history; and what its calls do, whatever the history was.
use Rattle.std.specs.Prelude.{◌≡◌, ◌⊎◌, ◌≤◌, ◌*◌, ℕ, zero, suc, true, false, if◌then◌else◌, List, [], ◌∷◌, ◌++◌, Option, None, Some, length, slice_get, All, Result, OnOk, IfOk, IfErr, IsErrOf}
use Rattle.std.specs.Int.{IsInRange}
use Rattle.rtk_frame.specs.Frames.{pending}
use Rattle.rtk_frame.specs.Stream.{with_more}
use Rattle.rtk_setup.specs.declared.counts.Counts.{Counts}
use Rattle.rtk_convert.specs.declared.fault.ConvertFault.{ConvertFault}
use Rattle.rtk_convert.specs.declared.fault.ConvertFault.TheVariants.{NoLink, LinkClosed, Stopped}
use Rattle.rtk_convert.specs.declared.link_state.LinkState.{LinkState}
use Rattle.rtk_convert.specs.Failure.{IsFrameFault}
use Rattle.rtk_convert.specs.FileOfArrivals.{kept_file, file_so_far}
use Rattle.rtk_convert.specs.FrameClass.{Found, IsClassOfPayload, arrivals}
use Rattle.rtk_convert.specs.declared.frame_class.FrameClass.{FrameClass}
use Rattle.rtk_convert.specs.Finish.{all_counts, report_of}
use Rattle.rtk_convert.specs.History.{LinkPast, History, new_history, Finds, IsOpen, IsAfterFeed, IsAfterClose, fed_on, found_by_piece, found_by_close, newest_on}
use Rattle.rtk_convert.specs.Report.{lines}
use Rattle.rtk_setup.specs.Setup.{SetupView, greatest_satellite}
use Rattle.rtk_convert.specs.Conversion.{ConversionView, HoldsArrivals, found_on, RepresentsFound}
use Rattle.rtk_convert.specs.Writing.{Written, WritesRest}

pub record ConverterView : Type 0 where
  -- what all links together have come to
  pub conversion : ConversionView
  pub links : List LinkState

-- constant
-- 1 to 16 links (this project's rule)
abbrev pub IsLinkCount : ℕ → Type 0
IsLinkCount n = IsInRange 1 16 n

-- a converter has 1 to 16 links, each holds at most the bytes of the longest frame; at most as many
-- epochs are open as the setup says; and the window holds what is kept of some arrivals, also after
-- a call that broke off
pub record IsConverterView (c : ConverterView) : Type 0 where
  pub few : IsLinkCount (length c.links)
  pub short : All (λ l. length l.scanner.pending ≤ 1029) c.links
  pub epochs : length c.conversion.collector.sets ≤ c.conversion.setup.window
  pub held : HoldsArrivals c.conversion.setup c.conversion.collector

-- why a call on a link is refused at once: the first cause that holds
abbrev pub link_refusal : Option LinkState → Option ConvertFault
link_refusal None = Some NoLink
link_refusal (Some l) = if l.scanner.ended then Some LinkClosed else None

abbrev pub refusal : ConverterView → ℕ → Option ConvertFault
refusal c link = if c.conversion.stopped then Some Stopped else link_refusal (slice_get c.links link)

-- a link represents its past: it is closed exactly if that is closed; while it is open it holds the
-- bytes that wait for more; and it has the newest epoch that came on it
pub record RepresentsLink (l : LinkState) (p : LinkPast) (number : ℕ) (found : List Found) : Type 0 where
  pub closed : l.scanner.ended ≡ p.is_closed
  pub waiting : p.is_closed ≡ false → l.scanner.pending ≡ pending p.fed
  pub newest : l.newest ≡ newest_on number found

-- each link represents its past; the first of these links has this number
abbrev pub RepresentLinks : List LinkState → List LinkPast → ℕ → List Found → Type 0
RepresentLinks [] [] number found = Unit {0}
RepresentLinks (l ∷ ls) (p ∷ ps) number found = RepresentsLink l p number found × RepresentLinks ls ps (suc number) found
RepresentLinks [] (p ∷ ps) number found = ⊥
RepresentLinks (l ∷ ls) [] number found = ⊥

-- a converter that has not broken off represents a history
pub record RepresentsHistory (c : ConverterView) (h : History) : Type 0 where
  pub going : c.conversion.stopped ≡ false
  pub links : RepresentLinks c.links h.links 0 h.found
  pub found : RepresentsFound c.conversion h.found

-- what a converter holds: of each link at most the bytes of the longest frame; at most as many open
-- epochs as the setup says; and of each of these at most 32 cells, for 16 codes and 2 kinds of message,
-- for each satellite up to the greatest of the listed systems: 1,024 with codes of GPS alone
pub record HoldsAtMost (c : ConverterView) : Type 0 where
  pub bytes : All (λ l. length l.scanner.pending ≤ 1029) c.links
  pub epochs : length c.conversion.collector.sets ≤ c.conversion.setup.window
  pub cells : All (λ e. length e.cells ≤ 32 * greatest_satellite c.conversion.setup) c.conversion.collector.sets

-- a new converter with this setup: its links are open, and nothing was fed on them
pub record IsNewConverter (s : SetupView) (links : ℕ) (c : ConverterView) : Type 0 where
  pub represents : RepresentsHistory c (new_history links)
  pub same_setup : c.conversion.setup ≡ s
  pub as_many : length c.links ≡ links
  pub bounds : HoldsAtMost c

-- what the frames after `before` add to the file and to the lines was written
pub record WritesOn (s : SetupView) (before after : List Found) (written_old written_new : Written) : Type 0 where
  pub out : WritesRest written_old.file written_new.file (file_so_far s (arrivals before)) (file_so_far s (arrivals after))
  pub log : WritesRest written_old.report written_new.report (lines s before) (lines s after)

-- one more piece is fed on a link, whatever the history was
abbrev pub FeedsPiece : ConverterView → ℕ → List ℕ → ConverterView → Written → Written → Type 0
FeedsPiece old link piece new written_old written_new = (h : History) → RepresentsHistory old h
    → (next : History) × IsAfterFeed old.conversion.setup h link piece next × RepresentsHistory new next
    × WritesOn old.conversion.setup h.found next.found written_old written_new

-- a link is closed, whatever the history was
abbrev pub ClosesLink : ConverterView → ℕ → ConverterView → Written → Written → Type 0
ClosesLink old link new written_old written_new = (h : History) → RepresentsHistory old h
    → (next : History) × IsAfterClose old.conversion.setup h link next × RepresentsHistory new next
    × WritesOn old.conversion.setup h.found next.found written_old written_new

-- the first text begins the second, and the second the third: what was written is the rest of the
-- second, and then a first part of the rest of the third
abbrev pub WritesInto : Option (List ℕ) → Option (List ℕ) → List ℕ → List ℕ → List ℕ → Type 0
WritesInto before after first second third = (more : List ℕ) × (part : List ℕ) × (rest : List ℕ)
    × (second ≡ first ++ more) × (third ≡ second ++ (part ++ rest)) × (after ≡ with_more before (more ++ part))

-- a call breaks off at one of the frames that it finds after the frames `before`. Since the frames
-- `first` were found, all that was added up to this frame was written, and a first part of what
-- this frame adds.
pub record BreaksOffAfter (s : SetupView) (link : ℕ) (payloads : List (List ℕ)) (first before : List Found) (written_old written_new : Written) : Type 0 where
  pub done : List (List ℕ)
  pub payload : List ℕ
  pub left : List (List ℕ)
  pub split : payloads ≡ done ++ payload ∷ left
  pub found : List Found
  pub finds : Finds s link done before found
  pub class : FrameClass
  pub comes : IsClassOfPayload s payload class
  pub out : WritesInto written_old.file written_new.file (file_so_far s (arrivals first)) (file_so_far s (arrivals found)) (file_so_far s (arrivals (found_on link class ∷ found)))
  pub log : WritesInto written_old.report written_new.report (lines s first) (lines s found) (lines s (found_on link class ∷ found))

abbrev pub BreaksOffAt : SetupView → ℕ → List (List ℕ) → List Found → Written → Written → Type 0
BreaksOffAt s link payloads before written_old written_new = BreaksOffAfter s link payloads before before written_old written_new

-- feeding a piece breaks off, whatever the history was
abbrev pub FeedsPieceInPart : ConverterView → ℕ → List ℕ → Written → Written → Type 0
FeedsPieceInPart old link piece written_old written_new = (h : History) → RepresentsHistory old h
    → BreaksOffAt old.conversion.setup link (found_by_piece (fed_on link h.links) piece) h.found written_old written_new

-- closing a link breaks off, whatever the history was
abbrev pub ClosesLinkInPart : ConverterView → ℕ → Written → Written → Type 0
ClosesLinkInPart old link written_old written_new = (h : History) → RepresentsHistory old h
    → BreaksOffAt old.conversion.setup link (found_by_close (fed_on link h.links)) h.found written_old written_new

-- a piece is fed on a link, or the call breaks off at one of the frames that it finds
pub record FeedsLink {T : Type 0} (old : ConverterView) (link : ℕ) (piece : List ℕ) (result : Result T ConvertFault) (new : ConverterView)
    (written_old written_new : Written) : Type 0 where
  pub ok : OnOk result (FeedsPiece old link piece new written_old written_new)
  pub err : IfErr result (λ fault. IsFrameFault fault → FeedsPieceInPart old link piece written_old written_new)

-- a link is closed, or the call breaks off at one of the frames that are left in it
pub record EndsLink {T : Type 0} (old : ConverterView) (link : ℕ) (result : Result T ConvertFault) (new : ConverterView)
    (written_old written_new : Written) : Type 0 where
  pub ok : OnOk result (ClosesLink old link new written_old written_new)
  pub err : IfErr result (λ fault. IsFrameFault fault → ClosesLinkInPart old link written_old written_new)

-- what a call on a link leaves of a converter, whatever it was to do: a call that breaks off stops
-- the converter, and only memory or a write breaks a call off that is not refused; whatever the
-- answer, the setup and the number of links stay, and what the converter holds is bounded
pub record LeavesConverter {T : Type 0} (old : ConverterView) (link : ℕ) (result : Result T ConvertFault) (new : ConverterView)
    : Type 0 where
  pub going : OnOk result (new.conversion.stopped ≡ false)
  pub halts : IfErr result (λ fault. IsFrameFault fault → new.conversion.stopped ≡ true)
  pub fault : refusal old link ≡ None → IfErr result IsFrameFault
  pub same_setup : new.conversion.setup ≡ old.conversion.setup
  pub as_many : length new.links ≡ length old.links
  pub bounds : HoldsAtMost new

-- ---- the end

-- a link is closed if it is open
abbrev pub IsAfterClosing : SetupView → History → ℕ → History → Type 0
IsAfterClosing s h link next = (IsOpen h link × IsAfterClose s h link next) ⊎ ((IsOpen h link → ⊥) × (next ≡ h))

-- formula
-- the first n links are closed if they are open, the lower number first
abbrev pub IsAfterClosingAll : SetupView → History → ℕ → History → Type 0
IsAfterClosingAll s h zero next = next ≡ h
IsAfterClosingAll s h (suc n) next = (mid : History) × IsAfterClosingAll s h n mid × IsAfterClosing s mid n next

-- the end of a converter: its open links are closed, the file and the report are whole
pub record FinishesConverterAs (s : SetupView) (h last : History) (counts : Counts) (written_old written_new : Written) : Type 0 where
  pub closed : IsAfterClosingAll s h (length h.links) last
  pub counts_are : counts ≡ all_counts s last.found
  pub out : WritesRest written_old.file written_new.file (file_so_far s (arrivals h.found)) (kept_file s (arrivals last.found))
  pub log : WritesRest written_old.report written_new.report (lines s h.found) (report_of s last.found)

-- a converter ends so, whatever the history was
abbrev pub FinishesConverter : ConverterView → Counts → Written → Written → Type 0
FinishesConverter old counts written_old written_new = (h : History) → RepresentsHistory old h
    → (last : History) × FinishesConverterAs old.conversion.setup h last counts written_old written_new

-- the end breaks off at a frame of a link that it closes: the links of lower numbers are closed
pub record BreaksOffClosing (s : SetupView) (h : History) (link : ℕ) (written_old written_new : Written) : Type 0 where
  pub mid : History
  pub closed : IsAfterClosingAll s h link mid
  pub is_open : IsOpen mid link
  pub breaks : BreaksOffAfter s link (found_by_close (fed_on link mid.links)) h.found mid.found written_old written_new

-- the end breaks off once all links are closed: what is written lies between the file so far and
-- the file; and the report has the lines alone, without a byte of the counts, or the file is whole
pub record BreaksOffFinishing (s : SetupView) (h : History) (written_old written_new : Written) : Type 0 where
  pub last : History
  pub closed : IsAfterClosingAll s h (length h.links) last
  pub out : WritesInto written_old.file written_new.file (file_so_far s (arrivals h.found)) (file_so_far s (arrivals last.found)) (kept_file s (arrivals last.found))
  pub log : WritesInto written_old.report written_new.report (lines s h.found) (lines s last.found) (report_of s last.found)
  pub counts_last : WritesRest written_old.report written_new.report (lines s h.found) (lines s last.found)
      ⊎ WritesRest written_old.file written_new.file (file_so_far s (arrivals h.found)) (kept_file s (arrivals last.found))

-- the end of a converter breaks off in one of these two ways, whatever the history was
abbrev pub FinishesConverterInPart : ConverterView → Written → Written → Type 0
FinishesConverterInPart old written_old written_new = (h : History) → RepresentsHistory old h
    → ((link : ℕ) × BreaksOffClosing old.conversion.setup h link written_old written_new)
    ⊎ BreaksOffFinishing old.conversion.setup h written_old written_new

-- a converter ends: the file and the report are whole, or its end breaks off; after a call that broke
-- off it is refused
pub record EndsConverter (old : ConverterView) (result : Result Counts ConvertFault) (written_old written_new : Written) : Type 0 where
  pub ok : IfOk result (λ counts. FinishesConverter old counts written_old written_new)
  pub err : IfErr result (λ fault. IsFrameFault fault → FinishesConverterInPart old written_old written_new)
  pub stopped : old.conversion.stopped ≡ true → IsErrOf result Stopped
  pub fault : old.conversion.stopped ≡ false → IfErr result IsFrameFault
