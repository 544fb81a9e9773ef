-- The promise for any list of calls, and what they write, by the contracts of `feed`, `close` and
-- `finish`. Lists of calls are newest first.
use Rattle.std.specs.Prelude.{◌≡◌, ◌⊎◌, ℕ, List, [], ◌∷◌, None, Some}
use Rattle.rtk_setup.specs.declared.counts.Counts.{Counts}
use Rattle.rtk_convert.specs.declared.fault.ConvertFault.TheVariants.{NoLink, LinkClosed}
use Rattle.rtk_convert.specs.Converter.{ConverterView, RepresentsHistory, refusal, FeedsPiece, ClosesLink, FinishesConverter, IsAfterClosing, IsAfterClosingAll}
use Rattle.rtk_convert.specs.FileLaws.{IsTextOfTable}
use Rattle.rtk_convert.specs.FileOfArrivals.{kept_file}
use Rattle.rtk_convert.specs.FrameClass.{Found, arrivals}
use Rattle.rtk_convert.specs.Headline.{Headline}
use Rattle.rtk_convert.specs.History.{History, new_history, IsOpen, IsAfterFeed}
use Rattle.rtk_convert.specs.Kept.{came_of, WritesKept}
use Rattle.rtk_setup.specs.Setup.{SetupView, IsSetupView}
use Rattle.rtk_convert.specs.Writing.{Written}

-- ---- what calls find

-- a call: a piece is fed on a link, or a link is closed
pub data Call : Type 0 where
  Feed : (link : ℕ) (piece : List ℕ) → Call
  Close : (link : ℕ) → Call

-- the history after a call; a call on a link that is closed or doesn't exist is refused, and
-- nothing comes of it
abbrev pub IsAfterCall : SetupView → History → Call → History → Type 0
IsAfterCall s h (Feed link piece) next = (IsOpen h link × IsAfterFeed s h link piece next) ⊎ ((IsOpen h link → ⊥) × (next ≡ h))
IsAfterCall s h (Close link) next = IsAfterClosing s h link next

-- the history that calls come to: whatever they feed, in whatever order
abbrev pub CallsComeTo : SetupView → ℕ → List Call → History → Type 0
CallsComeTo s links [] h = h ≡ new_history links
CallsComeTo s links (c ∷ before) h = (old : History) × CallsComeTo s links before old × IsAfterCall s old c h

-- all frames that calls find, and that the end finds when it closes the open links
abbrev pub FindAll : SetupView → ℕ → List Call → List Found → Type 0
FindAll s links calls found = (h : History) × (last : History) × CallsComeTo s links calls h × IsAfterClosingAll s h links last × (found ≡ last.found)

-- ---- calls of a converter

-- a call is refused, since the link doesn't exist or is closed, and nothing comes of it
pub record IsRefused (old : ConverterView) (link : ℕ) (new : ConverterView) (written_old written_new : Written) : Type 0 where
  pub why : (refusal old link ≡ Some NoLink) ⊎ (refusal old link ≡ Some LinkClosed)
  pub same : new ≡ old
  pub written : written_new ≡ written_old

-- a call is answered Ok, or it is refused in this way
abbrev pub IsAnswered : ConverterView → Call → ConverterView → Written → Written → Type 0
IsAnswered old (Feed link piece) new written_old written_new =
    ((refusal old link ≡ None) × FeedsPiece old link piece new written_old written_new) ⊎ IsRefused old link new written_old written_new
IsAnswered old (Close link) new written_old written_new =
    ((refusal old link ≡ None) × ClosesLink old link new written_old written_new) ⊎ IsRefused old link new written_old written_new

-- all calls of a list are answered so, one after another on this converter
abbrev pub AreAnswered : ConverterView → List Call → ConverterView → Written → Written → Type 0
AreAnswered first [] now written_old written_new = (now ≡ first) × (written_new ≡ written_old)
AreAnswered first (call ∷ before) now written_old written_new =
    (mid : ConverterView) × (written_mid : Written) × AreAnswered first before mid written_old written_mid
    × IsAnswered mid call now written_mid written_new × (now.conversion.setup ≡ mid.conversion.setup)

-- any calls on a new converter, and then its end, which answers the counts
pub record IsConversionBy (s : SetupView) (links : ℕ) (calls : List Call) (counts : Counts) (written_old written_new : Written) : Type 0 where
  pub first : ConverterView
  pub now : ConverterView
  pub written_mid : Written
  pub is_new : RepresentsHistory first (new_history links)
  pub setup : first.conversion.setup ≡ s
  pub answered : AreAnswered first calls now written_old written_mid
  pub ended : FinishesConverter now counts written_mid written_new

-- such calls keep the promise for the messages among the frames that they find
abbrev pub CallsKeepPromise : Type 0
CallsKeepPromise =
    (s : SetupView) (links : ℕ) (calls : List Call) (counts : Counts) (written_old written_new : Written)
    → IsConversionBy s links calls counts written_old written_new
    → (found : List Found) × FindAll s links calls found × Headline s (came_of found) written_old written_new

-- such calls write what is kept of these frames
abbrev pub CallsWriteKept : Type 0
CallsWriteKept =
    (s : SetupView) (links : ℕ) (calls : List Call) (counts : Counts) (written_old written_new : Written)
    → IsConversionBy s links calls counts written_old written_new
    → (found : List Found) × FindAll s links calls found × WritesKept s found counts written_old written_new

-- with a good setup the file of all frames that any calls find is the text of a well-formed table
abbrev pub CallsComeToTable : Type 0
CallsComeToTable = (s : SetupView) (links : ℕ) (calls : List Call) (found : List Found) → IsSetupView s → FindAll s links calls found → IsTextOfTable (kept_file s (arrivals found))
