-- A call comes to one history, and any calls find one list of frames; one link is next, and reads
-- come to one history.
use Rattle.std.proofs.Common.{◌≡◌, ℕ, ◌<◌, arith, zero, suc, List, [], ◌∷◌, inl, inr, ap, sym, subst, ◌∙◌}
use Rattle.rtk_convert.specs.Converter.{IsAfterClosing, IsAfterClosingAll}
use Rattle.rtk_convert.specs.FrameClass.{Found}
use Rattle.rtk_convert.specs.CallLaws.{Call, Feed, Close, IsAfterCall, CallsComeTo, FindAll}
use Rattle.rtk_convert.specs.History.{LinkPast, History, Finds, IsAfterFeed, IsAfterClose, IsNextLink}
use Rattle.rtk_convert.specs.ReadHistory.{Read, IsAfterPiece, IsHistoryOf}
use Rattle.rtk_setup.specs.Setup.{SetupView}
use Rattle.rtk_convert.specs.Conversion.{found_on}
use Rattle.rtk_convert.specs.declared.frame_class.FrameClass.{FrameClass}
use Rattle.rtk_convert.proofs.GatheringLemmas.{OneClock, comes-once}

finds-once : OneClock → (s : SetupView) (link : ℕ) (ps : List (List ℕ)) (before a b : List Found) → Finds s link ps before a → Finds s link ps before b → a ≡ b
finds-once law s link [] before a b p q = p ∙ sym q
finds-once law s link (x ∷ xs) before a b (f, comes, more) (g, comes', more') =
    let same : g ≡ f = comes-once law s x g f comes' comes in
    finds-once law s link xs (found_on link f ∷ before) a b more (subst (λ (y : FrameClass). Finds s link xs (found_on link y ∷ before) b) same more')

histories-same : (a b : History) → a.links ≡ b.links → a.found ≡ b.found → a ≡ b
histories-same a b links found = ap (λ (ls : List LinkPast). record { links = ls; found = a.found }) links ∙ ap (λ (fs : List Found). record { links = b.links; found = fs }) found

pub feeds-once : OneClock → (s : SetupView) (h : History) (link : ℕ) (piece : List ℕ) (a b : History) → IsAfterFeed s h link piece a → IsAfterFeed s h link piece b → a ≡ b
feeds-once law s h link piece a b p q = histories-same a b (p.links ∙ sym q.links) (finds-once law s link _ h.found a.found b.found p.found q.found)

pub closes-once : OneClock → (s : SetupView) (h : History) (link : ℕ) (a b : History) → IsAfterClose s h link a → IsAfterClose s h link b → a ≡ b
closes-once law s h link a b p q = histories-same a b (p.links ∙ sym q.links) (finds-once law s link _ h.found a.found b.found p.found q.found)

closing-once : OneClock → (s : SetupView) (h : History) (link : ℕ) (a b : History) → IsAfterClosing s h link a → IsAfterClosing s h link b → a ≡ b
closing-once law s h link a b (inl p) (inl q) = closes-once law s h link a b p.1 q.1
closing-once law s h link a b (inl p) (inr q) = absurd (q.0 p.0)
closing-once law s h link a b (inr p) (inl q) = absurd (p.0 q.0)
closing-once law s h link a b (inr p) (inr q) = p.1 ∙ sym q.1

pub ends-once : OneClock → (s : SetupView) (h : History) (links : ℕ) (a b : History) → IsAfterClosingAll s h links a → IsAfterClosingAll s h links b → a ≡ b
ends-once law s h zero a b p q = p ∙ sym q
ends-once law s h (suc n) a b (m, before, p) (m', before', q) =
    let same : m' ≡ m = ends-once law s h n m' m before' before in
    closing-once law s m n a b p (subst (λ (x : History). IsAfterClosing s x n b) same q)

call-once : OneClock → (s : SetupView) (h : History) (call : Call) (a b : History) → IsAfterCall s h call a → IsAfterCall s h call b → a ≡ b
call-once law s h (Feed link piece) a b (inl p) (inl q) = feeds-once law s h link piece a b p.1 q.1
call-once law s h (Feed link piece) a b (inl p) (inr q) = absurd (q.0 p.0)
call-once law s h (Feed link piece) a b (inr p) (inl q) = absurd (p.0 q.0)
call-once law s h (Feed link piece) a b (inr p) (inr q) = p.1 ∙ sym q.1
call-once law s h (Close link) a b p q = closing-once law s h link a b p q

come-once : OneClock → (s : SetupView) (links : ℕ) (calls : List Call) (a b : History) → CallsComeTo s links calls a → CallsComeTo s links calls b → a ≡ b
come-once law s links [] a b p q = p ∙ sym q
come-once law s links (call ∷ before) a b (m, came, p) (m', came', q) =
    let same : m' ≡ m = come-once law s links before m' m came' came in
    call-once law s m call a b p (subst (λ (x : History). IsAfterCall s x call b) same q)

pub found-once : OneClock → (s : SetupView) (links : ℕ) (calls : List Call) (one other : List Found) → FindAll s links calls one → FindAll s links calls other → one ≡ other
found-once law s links calls one other (h, last, came, closed, is) (h', last', came', closed', is') =
    let same : h' ≡ h = come-once law s links calls h' h came' came in
    let end : last ≡ last' = ends-once law s h links last last' closed (subst (λ (x : History). IsAfterClosingAll s x links last') same closed') in
    is ∙ ap (λ (x : History). x.found) end ∙ sym is'

-- ---- the order of reading

pub next-once : (h : History) (a b : ℕ) → IsNextLink h a → IsNextLink h b → a ≡ b
next-once h a b p q =
    let not_below : ¬ (a < b) = λ lt. q.lowest a lt p.is_open (p.least b q.is_open) in
    let not_above : ¬ (b < a) = λ lt. p.lowest b lt q.is_open (q.least a p.is_open) in
    omega (arith, not_below, not_above)

piece-once : OneClock → (s : SetupView) (h : History) (link : ℕ) (piece : List ℕ) (a b : History) → IsAfterPiece s h link piece a → IsAfterPiece s h link piece b → a ≡ b
piece-once law s h link [] a b p q = closes-once law s h link a b p q
piece-once law s h link (x ∷ piece) a b p q = feeds-once law s h link (x ∷ piece) a b p q

pub reads-once : OneClock → (s : SetupView) (links : ℕ) (reads : List Read) (a b : History) → IsHistoryOf s links reads a → IsHistoryOf s links reads b → a ≡ b
reads-once law s links [] a b p q = p ∙ sym q
reads-once law s links (r ∷ before) a b (m, came, p) (m', came', q) =
    let same : m' ≡ m = reads-once law s links before m' m came' came in
    piece-once law s m r.link r.piece a b p.after (subst (λ (x : History). IsAfterPiece s x r.link r.piece b) same q.after)
