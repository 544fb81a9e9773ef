-- What a contract sees of a scanner, and what its calls answer.
use Rattle.std.specs.Prelude.{◌≡◌, ⊤, ℕ, ◌+◌, ◌-◌, ◌≤◌, List, [], ◌++◌, length, take, Option, Some, None}
use Rattle.std.specs.Borrow.{follows_so, MutBor, Bor, Fml}
use mathlib.Core.Option.{none}
use Rattle.rtk_frame.specs.Frames.{frames, final_frames, pending, IsFirst}
use Rattle.rtk_frame.specs.declared.frame.TheConstants.{LONGEST_FRAME}
use Rattle.rtk_frame.specs.declared.scanner.Answer.{Answer}
use Rattle.rtk_frame.specs.declared.scanner.Answer.TheVariants.{Found, Hungry}
use Rattle.rtk_frame.specs.ScannerView.{ScannerView}
use Rattle.rtk_frame.specs.contracts.scanner.Scanner.{the_row}

-- P holds of the scanner once the payload that borrows it is gone
abbrev pub LeavesScanner : MutBor ScannerView → (ScannerView → Type 0) → Fml
LeavesScanner s P = follows_so the_row the_row s.ghost_name none (λ _ _. ⊤) P

-- what `feed` answers to a piece, if the bytes h were pending; after `Found` at least six bytes are
-- gone (those of a frame besides its payload), and the frame, which is lent, and the pending bytes
-- are together no longer than the longest frame
abbrev pub FedAnswer : List ℕ → List ℕ → ℕ → Answer → ScannerView → Type 0
FedAnswer h piece used (Found payload) now =
    IsFirst (final_frames (h ++ take used piece)) (h ++ take used piece) payload.now now.pending
    × (length now.pending + (length piece - used) + 6 ≤ length h + length piece)
    × (length payload.now + 6 + length now.pending ≤ LONGEST_FRAME)
FedAnswer h piece used Hungry now = (used ≡ length piece) × (final_frames (h ++ piece) ≡ []) × (now.pending ≡ pending (h ++ piece))

-- what `rest` answers, if the bytes h were pending; the lengths are as in `feed`
abbrev pub RestAnswer : List ℕ → Option (Bor (List ℕ)) → ScannerView → Type 0
RestAnswer h (Some payload) now =
    IsFirst (frames h) h payload.now now.pending × (length now.pending + 6 ≤ length h)
    × (length payload.now + 6 + length now.pending ≤ LONGEST_FRAME)
RestAnswer h None now = (frames h ≡ []) × (now.pending ≡ [])
