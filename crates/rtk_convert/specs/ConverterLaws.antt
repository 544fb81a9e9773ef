-- Laws on what a converter represents: what it holds and a call decide what it represents after the
-- call, what the call answers and what it writes (this project's rules).
use Rattle.std.specs.Prelude.{◌≡◌, ℕ, false, if◌then◌else◌, List, ◌++◌, Option, None, Some, slice_get}
use Rattle.rtk_frame.specs.Frames.{frames, final_frames, payloads}
use Rattle.rtk_setup.specs.declared.counts.Counts.{Counts}
use Rattle.rtk_convert.specs.declared.fault.ConvertFault.{ConvertFault}
use Rattle.rtk_convert.specs.declared.fault.ConvertFault.TheVariants.{NoLink, LinkClosed}
use Rattle.rtk_convert.specs.declared.link_state.LinkState.{LinkState}
use Rattle.rtk_convert.specs.CallLaws.{Call, IsAfterCall}
use Rattle.rtk_convert.specs.Converter.{ConverterView, RepresentsHistory, refusal, WritesOn, FinishesConverterAs}
use Rattle.rtk_convert.specs.History.{LinkPast, History, fed_on, found_by_piece, found_by_close, newest_on}
use Rattle.rtk_setup.specs.Setup.{SetupView}
use Rattle.rtk_convert.specs.Writing.{Written}

-- ---- what a call answers

-- why a call on a link is refused, by what the history says of the link
abbrev pub refusal_by : Option LinkPast → Option ConvertFault
refusal_by None = Some NoLink
refusal_by (Some p) = if p.is_closed then Some LinkClosed else None

-- `feed` and `close` are refused exactly if the link doesn't exist or is closed
abbrev pub LinkDecidesRefusal : Type 0
LinkDecidesRefusal =
    (c : ConverterView) (h : History) (link : ℕ) → RepresentsHistory c h
    → refusal c link ≡ refusal_by (slice_get h.links link)

-- each link holds the newest epoch that came on it, which `newest` answers
abbrev pub LinkHoldsNewest : Type 0
LinkHoldsNewest =
    (c : ConverterView) (h : History) (link : ℕ) (l : LinkState) → RepresentsHistory c h → slice_get c.links link ≡ Some l
    → newest_on link h.found ≡ l.newest

-- ---- what a call finds

-- `feed` finds the final frames of the bytes that wait on the link, followed by the piece; `close`
-- finds all frames of the bytes that wait
abbrev pub WaitingDecidesFrames : Type 0
WaitingDecidesFrames =
    (c : ConverterView) (h : History) (link : ℕ) (l : LinkState) → RepresentsHistory c h → slice_get c.links link ≡ Some l
    → l.scanner.ended ≡ false
    → ((piece : List ℕ) → found_by_piece (fed_on link h.links) piece ≡ payloads (final_frames (l.scanner.pending ++ piece)))
    × (found_by_close (fed_on link h.links) ≡ payloads (frames l.scanner.pending))

-- ---- what a call makes of a history

-- a converter with this setup represents a history, and its window has as many places as the setup
-- says
pub record HasHistory (s : SetupView) (c : ConverterView) (h : History) : Type 0 where
  pub same_setup : c.conversion.setup ≡ s
  pub places : c.conversion.collector.places ≡ s.window
  pub represents : RepresentsHistory c h

-- what `feed` or `close` makes of a history: the next one, which the converter then has, and what
-- was written
pub record CallMakes (s : SetupView) (h : History) (call : Call) (new : ConverterView) (written_old written_new : Written)
    : Type 0 where
  pub next : History
  pub after : IsAfterCall s h call next
  pub has : HasHistory s new next
  pub writes : WritesOn s h.found next.found written_old written_new

-- what a converter holds decides this: what a call makes of one history that the converter has, it
-- makes of each
abbrev pub HeldDecidesCall : Type 0
HeldDecidesCall =
    (s : SetupView) (old new : ConverterView) (h other : History) (call : Call) (written_old written_new : Written)
    → HasHistory s old h → HasHistory s old other
    → CallMakes s h call new written_old written_new → CallMakes s other call new written_old written_new

-- so does `finish`: it answers the same counts, and writes the same
abbrev pub HeldDecidesEnd : Type 0
HeldDecidesEnd =
    (s : SetupView) (c : ConverterView) (h last other : History) (counts : Counts) (written_old written_new : Written)
    → HasHistory s c h → HasHistory s c other → FinishesConverterAs s h last counts written_old written_new
    → (end : History) × FinishesConverterAs s other end counts written_old written_new
