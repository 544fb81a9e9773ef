-- The promise of a conversion, phrase by phrase: for every list of pieces fed over any links, with
-- repeats, losses and reorderings, provided equal keys carry equal bodies, the file written is byte
-- for byte the file of the set of messages that came at least once while their epoch was open, each
-- taken once; late arrivals are listed and change nothing. Lists are newest first.
use Rattle.std.specs.Prelude.{◌≡◌, ◌↔◌, ◌⊎◌, ◌<◌, ◌==◌, ◌&&◌, ℕ, Bool, true, false, if◌then◌else◌, List, [], ◌∷◌, ◌++◌, length, map, filter, flat_map, drop, codes, Option, None, Some, IsTrue, All, AllPairs, Contains}
use Rattle.std.specs.List.{list_any}
use Rattle.rtk_bits.specs.Bits.{bits}
use Rattle.rtk_frame.specs.Frames.{frames, final_frames, payloads}
use Rattle.rtk_frame.specs.Stream.{with_more}
use Rattle.rtk_message.specs.declared.any_message.AnyMessage.{AnyMessage as Message}
use Rattle.rtk_message.specs.AnyDecoded.{Encodes, number_of, station_of, takes_clock}
use Rattle.rtk_obs.specs.declared.signal_cells.SignalEntry.{SignalEntry}
use Rattle.rtk_collect.specs.Arrival.{Arrival, At, epoch_of, message_of}
use Rattle.rtk_collect.specs.EpochSet.{EpochSetView}
use Rattle.rtk_collect.specs.Key.{key}
use Rattle.rtk_collect.specs.Late.{late}
use Rattle.rtk_collect.specs.Laws.{without_late}
use Rattle.rtk_collect.specs.Signals.{signals}
use Rattle.rtk_convert.specs.File.{file_of}
use Rattle.rtk_convert.specs.FileOfArrivals.{site_of_stations}
use Rattle.rtk_convert.specs.FrameClass.{IsEpochOf}
use Rattle.rtk_convert.specs.ReadHistory.{Read, bytes_of, Gave, AllAtEnd}
use Rattle.rtk_convert.specs.ReportText.{arrival_text}
use Rattle.rtk_setup.specs.Setup.{SetupView, taken_by, takes, cells_by}
use Rattle.rtk_convert.specs.Writing.{Written}

-- ---- "for every list of pieces fed over any links"

-- one of these reads gave nothing, which ends its link
abbrev pub has_ended : ℕ → List Read → Bool
has_ended link reads = list_any (λ r. (r.link == link) && (length r.piece == 0)) reads

-- the payloads that a read finds after the bytes that its link gave before: those of the frames that
-- no further byte can change, and at the end those of all frames; without those found before
abbrev pub payloads_by : List ℕ → List ℕ → List (List ℕ)
payloads_by fed [] = drop (length (final_frames fed)) (payloads (frames fed))
payloads_by fed (x ∷ piece) = drop (length (final_frames fed)) (payloads (final_frames (fed ++ x ∷ piece)))

-- a payload is this message, which the setup takes, of its station, with its epoch, and by a clock that is read
abbrev pub IsMessageIn : SetupView → List ℕ → Arrival → Type 0
IsMessageIn s payload (At epoch m) =
    Encodes (bits payload) m × IsTrue (takes s (number_of m)) × (station_of m ≡ s.station) × IsEpochOf s m epoch × IsTrue (takes_clock (taken_by s).obs1012 m)

-- messages that came, each with its link
abbrev pub Came : Type 0
Came = List (ℕ × Arrival)

-- messages come in payloads of a link, one after another; other payloads are passed over
abbrev pub ComeIn : SetupView → ℕ → List (List ℕ) → Came → Came → Type 0
ComeIn s link [] before after = after ≡ before
ComeIn s link (p ∷ ps) before after = ((a : Arrival) × IsMessageIn s p a × ComeIn s link ps ((link, a) ∷ before) after)
    ⊎ (((a : Arrival) → ¬ (IsMessageIn s p a)) × ComeIn s link ps before after)

-- the messages that came by reads of this many links; a link that has ended is read no more
abbrev pub ComeBy : SetupView → ℕ → List Read → Came → Type 0
ComeBy s links [] came = came ≡ []
ComeBy s links (r ∷ before) came = (old : Came) × ComeBy s links before old
    × (r.link < links) × (has_ended r.link before ≡ false) × ComeIn s r.link (payloads_by (bytes_of r.link before) r.piece) old came

abbrev pub messages_of : Came → List Arrival
messages_of came = map (λ c. c.1) came

-- ---- "the set of messages that came at least once while their epoch was open"

abbrev pub CameInTime : SetupView → List Arrival → Arrival → Type 0
CameInTime s arrivals a = (later : List Arrival) × (before : List Arrival)
    × (arrivals ≡ later ++ a ∷ before) × (late s.window a before ≡ false)

-- ---- "provided equal keys carry equal bodies"

-- cells of one epoch under one key are equal, and so are station messages of one number
pub record EqualKeysCarryEqualBodies (s : SetupView) (set : Arrival → Type 0) : Type 0 where
  pub cells : (e : ℕ) (m o : Message) (c d : SignalEntry) → set (At (Some e) m) → set (At (Some e) o)
      → Contains (cells_by s m) c → Contains (cells_by s o) d → key signals c ≡ key signals d → c ≡ d
  pub stations : (m o : Message) → set (At None m) → set (At None o) → number_of m ≡ number_of o → m ≡ o

-- ---- "the file written is byte for byte"

-- such a text was written, after what was written before
abbrev pub IsWritten : Option (List ℕ) → Option (List ℕ) → (List ℕ → Type 0) → Type 0
IsWritten before after IsText = (text : List ℕ) × (after ≡ with_more before text) × IsText text

-- ---- "the file of the set"

-- what a file shows: epochs, each with its cells, and station messages
pub record Content : Type 0 where
  pub epochs : List (EpochSetView SignalEntry)
  pub arp1005 : Option Message
  pub arp1006 : Option Message

-- the station message of a number
abbrev pub IsStationOf : (Arrival → Type 0) → ℕ → Option Message → Type 0
IsStationOf set number kept = (m : Message) → (kept ≡ Some m) ↔ (set (At None m) × (number_of m ≡ number))

-- the epochs, cells and station messages of a set, and no others
pub record IsContentOf (s : SetupView) (set : Arrival → Type 0) (c : Content) : Type 0 where
  pub epochs : (e : ℕ) → Contains (map (λ x. x.epoch) c.epochs) e ↔ ((m : Message) × set (At (Some e) m))
  pub cells : (e : ℕ) (x : SignalEntry) → ((of : EpochSetView SignalEntry) × Contains c.epochs of × (of.epoch ≡ e) × Contains of.cells x)
      ↔ ((m : Message) × set (At (Some e) m) × Contains (cells_by s m) x)
  pub arp1005 : IsStationOf set 1005 c.arp1005
  pub arp1006 : IsStationOf set 1006 c.arp1006

-- ---- "each taken once"

-- no epoch stands twice, since they fall; no two cells of an epoch have one key, since keys rise
pub record EachOnce (c : Content) : Type 0 where
  pub epochs : AllPairs (λ x y. y.epoch < x.epoch) c.epochs
  pub cells : All (λ x. AllPairs (λ a b. key signals a < key signals b) x.cells) c.epochs

-- the text of a set: the header, and the records of its epochs, rising
abbrev pub IsFileOf : SetupView → (Arrival → Type 0) → List ℕ → Type 0
IsFileOf s set text = (c : Content) × IsContentOf s set c × EachOnce c × (text ≡ file_of s (site_of_stations c.arp1005 c.arp1006) c.epochs)

-- ---- "late arrivals are listed"

-- the lines of the messages that came too late, without their ends
abbrev pub late_lines : SetupView → Came → List (List ℕ)
late_lines s [] = []
late_lines s (c ∷ before) = late_lines s before ++ (if late s.window c.1 (messages_of before)
    then arrival_text c.0 (codes " late ") (number_of (message_of c.1)) (epoch_of c.1) ∷ [] else [])

-- the report has lines, some of them marked: the lines of the late messages, each once and in order
abbrev pub LateAreListed : SetupView → Came → Option (List ℕ) → Option (List ℕ) → Type 0
LateAreListed s came report_old report_new = IsWritten report_old report_new (λ text. (all : List (Bool × List ℕ))
    × (text ≡ flat_map (λ line. line.1 ++ 10 ∷ []) all) × (late_lines s came ≡ map (λ line. line.1) (filter (λ line. line.0) all)))

-- ---- "and change nothing"

-- with the late arrivals deleted a further arrival is late or not as before, none that stays is
-- late, and the set is the same
pub record LateChangeNothing (s : SetupView) (arrivals : List Arrival) : Type 0 where
  pub others : (a : Arrival) → late s.window a (without_late s.window arrivals) ≡ late s.window a arrivals
  pub none_late : without_late s.window (without_late s.window arrivals) ≡ without_late s.window arrivals
  pub same_set : (a : Arrival) → CameInTime s (without_late s.window arrivals) a ↔ CameInTime s arrivals a

-- ---- the whole sentence

-- of the messages that came
pub record Headline (s : SetupView) (came : Came) (written_old written_new : Written) : Type 0 where
  pub file_of_the_set : EqualKeysCarryEqualBodies s (CameInTime s (messages_of came))
      → IsWritten written_old.file written_new.file (IsFileOf s (CameInTime s (messages_of came)))
  pub late_are_listed : LateAreListed s came written_old.report written_new.report
  pub late_change_nothing : LateChangeNothing s (messages_of came)

-- of the pieces that the readers of a run gave, to their ends
pub record RunHeadline {R : Type 0} (given : R → Option (List ℕ)) (is_at_end : R → Type 0) (s : SetupView) (before after : List R) (written_old written_new : Written) : Type 0 where
  pub reads : List Read
  pub came : Came
  pub gave : Gave given before after reads
  pub to_their_ends : AllAtEnd is_at_end after
  pub of_all_pieces : ComeBy s (length before) reads came
  pub all_ended : (link : ℕ) → link < length before → has_ended link reads ≡ true
  pub headline : Headline s came written_old written_new

-- a set has one file, whatever the arrivals in which it came
abbrev pub SetHasOneFile : Type 0
SetHasOneFile = (s : SetupView) (one other : List Arrival) (first second : List ℕ)
    → ((a : Arrival) → CameInTime s one a ↔ CameInTime s other a) → IsFileOf s (CameInTime s one) first → IsFileOf s (CameInTime s other) second → first ≡ second
