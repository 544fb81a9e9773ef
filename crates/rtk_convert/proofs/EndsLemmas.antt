-- The reader of each link that is closed has met its end.
use Rattle.std.proofs.Common.{◌≡◌, ◌≢◌, ℕ, zero, suc, inl, inr, ◌<◌, ◌++◌, false, List, [], ◌∷◌, length, replicate, Option, None, Some, refl, sym, ap, subst, arith}
use Rattle.std.specs.Prelude.{slice_index_or, slice_get}
use Rattle.std.proofs.lemmas.Bool.{cases_eq}
use Rattle.rtk_convert.specs.Converter.{ConverterView, RepresentsHistory}
use Rattle.rtk_convert.specs.History.{History, LinkPast, new_history, IsOpen, with_piece, with_closed}
use Rattle.rtk_convert.specs.ReadSteps.{HasRead, HasCalled}
use Rattle.rtk_convert.specs.Steps.ReadLink.{ReadsLink, HasReadAll}
use Rattle.rtk_convert.specs.ReadHistory.{Read, AllClosed, AreAtEnd, IsAfterPiece}
use Rattle.rtk_setup.specs.Setup.{SetupView}
use Rattle.rtk_convert.specs.Writing.{Written}

abbrev OpenAt : List LinkPast → ℕ → Type 0
OpenAt ps k = (fed : List ℕ) × (slice_get ps k ≡ Some (record { fed = fed; is_closed = false }))

abbrev fed_more : List ℕ → Option LinkPast → Option LinkPast
fed_more piece None = None
fed_more piece (Some p) = Some (record { fed = p.fed ++ piece; is_closed = p.is_closed })

-- ---- links that stay open

-- an open link stays open when a link is fed
piece-open : (link k : ℕ) (piece : List ℕ) (ps : List LinkPast) → OpenAt ps k → OpenAt (with_piece link piece ps) k
piece-open link k piece [] p = p
piece-open zero zero piece (q ∷ ps) p = (p.0 ++ piece, ap (fed_more piece) p.1)
piece-open zero (suc k) piece (q ∷ ps) p = p
piece-open (suc link) zero piece (q ∷ ps) p = p
piece-open (suc link) (suc k) piece (q ∷ ps) p = piece-open link k piece ps p

-- and when another link is closed
close-open : (link k : ℕ) (ps : List LinkPast) → k ≢ link → OpenAt ps k → OpenAt (with_closed link ps) k
close-open link k [] other p = p
close-open zero zero (q ∷ ps) other p = absurd (other refl)
close-open zero (suc k) (q ∷ ps) other p = p
close-open (suc link) zero (q ∷ ps) other p = p
close-open (suc link) (suc k) (q ∷ ps) other p = close-open link k ps (λ e. other (ap suc e)) p

stays-open : (s : SetupView) (h : History) (link : ℕ) (piece : List ℕ) (next : History) (k : ℕ) → IsAfterPiece s h link piece next → k ≢ link → IsOpen h k → IsOpen next k
stays-open s h link [] next k after other o = subst (λ (ps : List LinkPast). OpenAt ps k) (sym after.links) (close-open link k h.links other o)
stays-open s h link (x ∷ piece) next k after other o = subst (λ (ps : List LinkPast). OpenAt ps k) (sym after.links) (piece-open link k (x ∷ piece) h.links o)

-- a read that closes its link gave nothing
closed-by-none : (s : SetupView) (h : History) (link : ℕ) (piece : List ℕ) (next : History) → IsAfterPiece s h link piece next → IsOpen h link → ¬ (IsOpen next link) → piece ≡ []
closed-by-none s h link [] next after o closed = refl
closed-by-none s h link (x ∷ piece) next after o closed = absurd (closed (subst (λ (ps : List LinkPast). OpenAt ps link) (sym after.links) (piece-open link link (x ∷ piece) h.links o)))

get-replicate : (n k : ℕ) (p : LinkPast) → k < n → slice_get (replicate n p) k ≡ Some p
get-replicate zero k p lt = absurd (omega arith)
get-replicate (suc n) zero p lt = refl
get-replicate (suc n) (suc k) p lt = get-replicate n k p (omega arith)

-- ---- the ends of the readers

pub ends-new : {R : Type 0} (is_at_end : R → Type 0) (readers : List R) → AreAtEnd is_at_end readers (new_history (length readers))
ends-new is_at_end readers = λ k none lt closed. absurd (closed ([], get-replicate (length readers) k (record { fed = []; is_closed = false }) lt))

pub ends-more : {R : Type 0} (given : R → Option (List ℕ)) (is_at_end : R → Type 0) (s : SetupView) (h : History) (link : ℕ) (mid after : List R) (new : ConverterView) (o1 o2 : Written)
    → (p : ReadsLink given is_at_end s h link mid after new o1 o2) → AreAtEnd is_at_end mid h → AreAtEnd is_at_end after p.next
ends-more {R} given is_at_end s h link mid after new o1 o2 p ends = λ k none lt closed. elim (cases_eq k link) [
  | inl same ↦ subst (λ (i : ℕ). is_at_end (slice_index_or after i none)) (sym same)
      (p.at_end none (closed-by-none s h link p.piece p.next p.is_next.after p.is_next.link.is_open (subst (λ (i : ℕ). ¬ (IsOpen p.next i)) same closed)))
  | inr other ↦ subst (λ (x : R). is_at_end x) (sym (p.others k none other))
      (ends k none (omega (arith, lt, p.gave.as_many)) (λ o. closed (stays-open s h link p.piece p.next k p.is_next.after other o)))
]

-- ---- after the last read

pub has-read-all : {R : Type 0} (given : R → Option (List ℕ)) (calls : R → ℕ) (is_at_end : R → Type 0) (s : SetupView) (before after : List R) (reads : List Read) (h : History) (n : ℕ) (new : ConverterView) (o0 o1 : Written)
    → HasRead given s before after reads h o0 o1 → RepresentsHistory new h → length reads ≡ n → AreAtEnd is_at_end after h → HasCalled calls before after n → AllClosed h
    → HasReadAll given calls is_at_end s before after new o0 o1
has-read-all given calls is_at_end s before after reads h n new o0 o1 read r made ends called closed = record {
  reads = reads;
  history = h;
  has_read = read;
  closed = closed;
  called = subst (λ (m : ℕ). HasCalled calls before after m) (sym made) called;
  at_end = λ k none lt. ends k none lt (closed k);
  represents = r;
}
