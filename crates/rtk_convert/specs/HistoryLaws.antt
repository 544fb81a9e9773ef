-- Laws: a payload has one class, so a call comes to one history, and any calls find one list of
-- frames; one link is next, so reads come to one history (this project's rules).
use Rattle.std.specs.Prelude.{◌≡◌, ℕ, List}
use Rattle.rtk_convert.specs.declared.frame_class.FrameClass.{FrameClass}
use Rattle.rtk_convert.specs.Converter.{IsAfterClosingAll}
use Rattle.rtk_convert.specs.FrameClass.{IsClassOfPayload, Found}
use Rattle.rtk_convert.specs.CallLaws.{Call, FindAll}
use Rattle.rtk_convert.specs.History.{History, IsAfterFeed, IsAfterClose, IsNextLink}
use Rattle.rtk_convert.specs.ReadHistory.{Read, IsHistoryOf}
use Rattle.rtk_setup.specs.Setup.{SetupView}

abbrev pub ComesToOne : Type 0
ComesToOne = (s : SetupView) (payload : List ℕ) (f g : FrameClass) → IsClassOfPayload s payload f → IsClassOfPayload s payload g → f ≡ g

abbrev pub FeedsToOne : Type 0
FeedsToOne = (s : SetupView) (h : History) (link : ℕ) (piece : List ℕ) (a b : History) → IsAfterFeed s h link piece a → IsAfterFeed s h link piece b → a ≡ b

abbrev pub ClosesToOne : Type 0
ClosesToOne = (s : SetupView) (h : History) (link : ℕ) (a b : History) → IsAfterClose s h link a → IsAfterClose s h link b → a ≡ b

abbrev pub EndsAtOne : Type 0
EndsAtOne = (s : SetupView) (h : History) (links : ℕ) (a b : History) → IsAfterClosingAll s h links a → IsAfterClosingAll s h links b → a ≡ b

-- so each statement on the frames that calls find is a statement on the same list
abbrev pub CallsFindOne : Type 0
CallsFindOne = (s : SetupView) (links : ℕ) (calls : List Call) (one other : List Found) → FindAll s links calls one → FindAll s links calls other → one ≡ other

-- the order of reading is a function of the history
abbrev pub NextIsOne : Type 0
NextIsOne = (h : History) (one other : ℕ) → IsNextLink h one → IsNextLink h other → one ≡ other

-- so the reads that were made fix the history, and with it the link that is read next
abbrev pub ReadsComeToOne : Type 0
ReadsComeToOne = (s : SetupView) (links : ℕ) (reads : List Read) (a b : History) → IsHistoryOf s links reads a → IsHistoryOf s links reads b → a ≡ b
