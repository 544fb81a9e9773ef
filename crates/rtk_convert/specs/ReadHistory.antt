-- The reads of a run, newest first, and the history that they come to (this project's rule).
use Rattle.std.specs.Prelude.{◌≡◌, ℕ, ◌<◌, ◌≤◌, ◌==◌, if◌then◌else◌, List, [], ◌∷◌, ◌++◌, length, Option, slice_index_or}
use Rattle.rtk_frame.specs.Stream.{with_more}
use Rattle.rtk_convert.specs.History.{History, new_history, IsOpen, IsAfterFeed, IsAfterClose, IsNextLink}
use Rattle.rtk_setup.specs.Setup.{SetupView}

-- a read: its link, and the bytes that it gave
pub record Read : Type 0 where
  pub link : ℕ
  pub piece : List ℕ

-- the history after a read of a link: its bytes are fed; a read without bytes closes the link
abbrev pub IsAfterPiece : SetupView → History → ℕ → List ℕ → History → Type 0
IsAfterPiece s h link [] next = IsAfterClose s h link next
IsAfterPiece s h link (x ∷ piece) next = IsAfterFeed s h link (x ∷ piece) next

-- formula
-- a read of the link that is next, of at most 512 bytes, and the history after it
pub record IsNextRead (s : SetupView) (h : History) (r : Read) (next : History) : Type 0 where
  pub link : IsNextLink h r.link
  pub few : length r.piece ≤ 512
  pub after : IsAfterPiece s h r.link r.piece next

-- the history that reads of this number of links come to
abbrev pub IsHistoryOf : SetupView → ℕ → List Read → History → Type 0
IsHistoryOf s links [] h = h ≡ new_history links
IsHistoryOf s links (r ∷ before) h = (old : History) × IsHistoryOf s links before old × IsNextRead s old r h

-- all links are closed
abbrev pub AllClosed : History → Type 0
AllClosed h = (link : ℕ) → ¬ (IsOpen h link)

-- ---- the ends of the readers

-- the reader of each link that is closed has met its end
abbrev pub AreAtEnd : {R : Type 0} → (R → Type 0) → List R → History → Type 0
AreAtEnd {R} is_at_end readers h = (k : ℕ) (none : R) → k < length readers → ¬ (IsOpen h k) → is_at_end (slice_index_or readers k none)

-- all readers have met their ends
abbrev pub AllAtEnd : {R : Type 0} → (R → Type 0) → List R → Type 0
AllAtEnd {R} is_at_end readers = (k : ℕ) (none : R) → k < length readers → is_at_end (slice_index_or readers k none)

-- ---- what the readers gave

abbrev pub piece_on : ℕ → Read → List ℕ
piece_on k r = if r.link == k then r.piece else []

-- the bytes that the reads of a link gave, joined
abbrev pub bytes_of : ℕ → List Read → List ℕ
bytes_of k [] = []
bytes_of k (r ∷ before) = bytes_of k before ++ piece_on k r

-- each reader gave the bytes of its link
-- (`none` stands for a reader past the end of the list, which is never looked at)
pub record Gave {R : Type 0} (given : R → Option (List ℕ)) (before after : List R) (reads : List Read) : Type 0 where
  pub as_many : length after ≡ length before
  pub bytes : (k : ℕ) (none : R) → k < length before → given (slice_index_or after k none) ≡ with_more (given (slice_index_or before k none)) (bytes_of k reads)
