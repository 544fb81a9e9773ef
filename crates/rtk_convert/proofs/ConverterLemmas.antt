-- What a converter represents after a call on one of its links.
use Rattle.std.proofs.Common.{◌≡◌, ◌≢◌, ◌≤◌, ◌<◌, ◌+◌, ℕ, zero, suc, Bool, true, false, not, if◌then◌else◌, List, [], ◌∷◌, ◌++◌, Option, None, Some, length, drop, set, replicate, refl, ap, sym, subst, ◌∙◌, arith}
use Rattle.std.proofs.lemmas.Grind.{common_steps}
use Rattle.std.specs.Prelude.{slice_get, Decides}
use Rattle.rtk_frame.specs.Frames.{Frame, final_frames, frames, payloads, pending}
use Rattle.rtk_frame.specs.Frames as spec
use Rattle.rtk_frame.specs.ScannerView.{scanner_view}
use Rattle.rtk_frame.proofs.PublicLaws.{final_payloads_cut, payloads_cut, pending_cut}
use Rattle.rtk_convert.specs.Converter.{ConverterView, RepresentsLink, RepresentLinks, RepresentsHistory, BreaksOffAt, FeedsPiece, FeedsPieceInPart, ClosesLink, ClosesLinkInPart, link_refusal, refusal}
use Rattle.rtk_convert.specs.FrameClass.{Found}
use Rattle.rtk_convert.specs.Steps.LinkFrames.{AddsFrames, AddsFramesInPart}
use Rattle.rtk_convert.specs.History.{LinkPast, History, Finds, IsOpen, fed_on, with_piece, with_closed, found_by_piece, found_by_close, newest_on}
use Rattle.rtk_setup.specs.Setup.{SetupView}
use Rattle.rtk_convert.specs.Conversion.{ConversionView, found_on}
use Rattle.rtk_convert.specs.declared.frame_class.FrameClass.{FrameClass}
use Rattle.rtk_convert.specs.declared.fault.ConvertFault.{ConvertFault}
use Rattle.rtk_convert.specs.declared.fault.ConvertFault.TheVariants.{LinkClosed, Stopped}
use Rattle.rtk_convert.specs.declared.link_state.LinkState.{LinkState}
use Rattle.rtk_convert.specs.Writing.{Written}

abbrev pub converter : ConversionView → List LinkState → ConverterView
converter conversion links = record { conversion = conversion; links = links }

-- ---- a link and its past

pub are-many : (ls : List LinkState) (ps : List LinkPast) (n : ℕ) (found : List Found) → RepresentLinks ls ps n found → length ls ≡ length ps
are-many [] [] n found a = refl
are-many [] (p ∷ ps) n found a = absurd a
are-many (l ∷ ls) [] n found a = absurd a
are-many (l ∷ ls) (p ∷ ps) n found a = ap suc (are-many ls ps (suc n) found a.1)

-- the link of a number, and its past
pub record AtLink (l : LinkState) (i k : ℕ) (ps : List LinkPast) (found : List Found) : Type 0 where
  pub past : LinkPast
  pub there : slice_get ps i ≡ Some past
  pub fed : fed_on i ps ≡ past.fed
  pub is : RepresentsLink l past k found

pub link-at : (i k n : ℕ) (l : LinkState) (ls : List LinkState) (ps : List LinkPast) (found : List Found) → RepresentLinks ls ps n found → slice_get ls i ≡ Some l → k ≡ n + i → AtLink l i k ps found
link-at i k n l [] ps found a e number = absurd cc
link-at i k n l (x ∷ xs) [] found a e number = absurd a
link-at zero k n l (x ∷ xs) (p ∷ ps) found a e number =
    let first : k ≡ n = omega arith in
    let same : x ≡ l = cc in
    record { past = p; there = refl; fed = refl; is = subst (λ (m : ℕ). RepresentsLink l p m found) (sym first) (subst (λ (y : LinkState). RepresentsLink y p n found) same a.0) }
link-at (suc i) k n l (x ∷ xs) (p ∷ ps) found a e number =
    let other = link-at i k (suc n) l xs ps found a.1 e (omega arith) in
    record { past = other.past; there = other.there; fed = other.fed; is = other.is }

-- the past of a number, and its link
pub past-at : (i n : ℕ) (p : LinkPast) (ls : List LinkState) (ps : List LinkPast) (found : List Found) → RepresentLinks ls ps n found → slice_get ps i ≡ Some p
    → (l : LinkState) × (slice_get ls i ≡ Some l) × (l.scanner.ended ≡ p.is_closed)
past-at i n p ls [] found a e = absurd cc
past-at i n p [] (q ∷ ps) found a e = absurd a
past-at zero n p (l ∷ ls) (q ∷ ps) found a e =
    let same : q ≡ p = cc in
    (l, refl, a.0.closed ∙ ap (λ (x : LinkPast). x.is_closed) same)
past-at (suc i) n p (l ∷ ls) (q ∷ ps) found a e = past-at i (suc n) p ls ps found a.1 e

-- ---- is a link open?

some-same : (x y : LinkState) → Some x ≡ Some y → x ≡ y
some-same x y e = cc

none-some : (x : LinkState) → None ≡ Some x → ⊥
none-some x e = cc

pub is-open : (i : ℕ) (l : LinkState) (ls : List LinkState) (h : History) → RepresentLinks ls h.links 0 h.found → slice_get ls i ≡ Some l → l.scanner.ended ≡ false → IsOpen h i
is-open i l ls h a e unended =
    let at = link-at i i 0 l ls h.links h.found a e (omega arith) in
    (at.past.fed, at.there ∙ ap (λ (b : Bool). Some (record at.past { is_closed = b })) (sym at.is.closed ∙ unended))

pub not-ended : (i : ℕ) (ls : List LinkState) (h : History) → RepresentLinks ls h.links 0 h.found → IsOpen h i → (l : LinkState) × (slice_get ls i ≡ Some l) × (l.scanner.ended ≡ false)
not-ended i ls h a (fed, there) = past-at i 0 (record { fed = fed; is_closed = false }) ls h.links h.found a there

ended-not : (b : Bool) → b ≡ false → not b ≡ true
ended-not b e = ap not e

not-ended-is : (b : Bool) → not b ≡ true → b ≡ false
not-ended-is true e = absurd cc
not-ended-is false e = refl

pub decides-open : (i : ℕ) (l : LinkState) (ls : List LinkState) (h : History) → RepresentLinks ls h.links 0 h.found → slice_get ls i ≡ Some l → Decides (not l.scanner.ended) (IsOpen h i)
decides-open i l ls h a e = (
  λ b. is-open i l ls h a e (not-ended-is l.scanner.ended b),
  λ unended.
      let (x, there, ended) = not-ended i ls h a unended in
      let same : x ≡ l = some-same x l (sym there ∙ e) in
      ended-not l.scanner.ended (ap (λ (y : LinkState). y.scanner.ended) (sym same) ∙ ended),
)

past-end : (ls : List LinkState) (i : ℕ) → length ls ≤ i → slice_get ls i ≡ None
past-end [] i le = refl
past-end (l ∷ ls) zero le = absurd (omega arith)
past-end (l ∷ ls) (suc i) le = past-end ls i (omega arith)

pub decides-none : (i : ℕ) (ls : List LinkState) (h : History) → RepresentLinks ls h.links 0 h.found → length ls ≤ i → Decides false (IsOpen h i)
decides-none i ls h a le = (
  λ b. absurd cc,
  λ unended.
      let (x, there, ended) = not-ended i ls h a unended in
      absurd (none-some x (sym (past-end ls i le) ∙ there)),
)

pub record IsAccepted (c : ConverterView) (link : ℕ) : Type 0 where
  pub going : c.conversion.stopped ≡ false
  pub is_open : (l : LinkState) → slice_get c.links link ≡ Some l → l.scanner.ended ≡ false

none-refused : (stopped : Bool) (o : Option ConvertFault) → (if stopped then Some Stopped else o) ≡ None → (stopped ≡ false) × (o ≡ None)
none-refused true o e = absurd cc
none-refused false o e = (refl, e)

none-closed : (ended : Bool) → (if ended then Some LinkClosed else None) ≡ None → ended ≡ false
none-closed true e = absurd cc
none-closed false e = refl

pub accepted : (c : ConverterView) (link : ℕ) → refusal c link ≡ None → IsAccepted c link
accepted c link e =
    let r = none-refused c.conversion.stopped (link_refusal (slice_get c.links link)) e in
    record {
      going = r.0;
      is_open = λ l there. none-closed l.scanner.ended (subst (λ (o : Option LinkState). link_refusal o ≡ None) there r.1);
    }

some-there : (ls : List LinkState) (i : ℕ) → i < length ls → (l : LinkState) × (slice_get ls i ≡ Some l)
some-there [] i le = absurd (omega arith)
some-there (l ∷ ls) zero le = (l, refl)
some-there (l ∷ ls) (suc i) le = some-there ls i (omega arith)

-- so there is such a link
within-list : (ls : List LinkState) (link : ℕ) → link_refusal (slice_get ls link) ≡ None → link < length ls
within-list [] link e = absurd cc
within-list (l ∷ ls) zero e = omega arith
within-list (l ∷ ls) (suc link) e = let rest = within-list ls link e in omega arith

not-ended-unrefused : (ended : Bool) → Decides (not ended) ((if ended then Some LinkClosed else None) ≡ None)
not-ended-unrefused true = (λ b. absurd cc, λ e. absurd cc)
not-ended-unrefused false = (λ b. refl, λ e. refl)

-- a link is open exactly if no call is refused for it
pub unrefused-some : (ls : List LinkState) (i : ℕ) (l : LinkState) → slice_get ls i ≡ Some l → Decides (not l.scanner.ended) (link_refusal (slice_get ls i) ≡ None)
unrefused-some ls i l there = subst (λ (o : Option LinkState). Decides (not l.scanner.ended) (link_refusal o ≡ None)) (sym there) (not-ended-unrefused l.scanner.ended)

pub unrefused-none : (ls : List LinkState) (i : ℕ) → length ls ≤ i → Decides false (link_refusal (slice_get ls i) ≡ None)
unrefused-none ls i le = (λ b. absurd cc, λ e. let within : i < length ls = within-list ls i e in absurd (omega arith))

pub accepted-within : (c : ConverterView) (link : ℕ) → refusal c link ≡ None → link < length c.links
accepted-within c link e = within-list c.links link (none-refused c.conversion.stopped (link_refusal (slice_get c.links link)) e).1

pub accepted-open : (c : ConverterView) (h : History) (link : ℕ) → RepresentsHistory c h → refusal c link ≡ None → IsOpen h link
accepted-open c h link r none =
    let (l, there) = some-there c.links link (accepted-within c link none) in
    is-open link l c.links h r.links there ((accepted c link none).is_open l there)

pub open-accepted : (c : ConverterView) (h : History) (link : ℕ) → RepresentsHistory c h → IsOpen h link → refusal c link ≡ None
open-accepted c h link r unended =
    let (l, there, ended) = not-ended link c.links h r.links unended in
    ap (λ (b : Bool). if b then Some Stopped else link_refusal (slice_get c.links link)) r.going
    ∙ ap link_refusal there ∙ ap (λ (b : Bool). if b then Some LinkClosed else None) ended

-- ---- what a call finds

drop-past : (fs : List Frame) (ps : List (List ℕ)) → drop (length fs) (payloads fs ++ ps) ≡ ps
drop-past [] ps = refl
drop-past (f ∷ fs) ps = drop-past fs ps

pub found-pending : (fed piece : List ℕ) → found_by_piece fed piece ≡ payloads (final_frames (pending fed ++ piece))
found-pending fed piece = ap (drop (length (final_frames fed))) (final_payloads_cut fed piece) ∙ drop-past (final_frames fed) (payloads (final_frames (pending fed ++ piece)))

pub found-left : (fed : List ℕ) → found_by_close fed ≡ payloads (frames (pending fed))
found-left fed = ap (drop (length (final_frames fed))) (payloads_cut fed) ∙ drop-past (final_frames fed) (payloads (frames (pending fed)))

-- ---- the other links

passes : (link k : ℕ) (f : FrameClass) (found : List Found) → k ≢ link → newest_on k (found_on link f ∷ found) ≡ newest_on k found
passes link k f found other = grind (arith, common_steps)

pub others-newest : (s : SetupView) (link k : ℕ) (ps : List (List ℕ)) (before after : List Found) → k ≢ link → Finds s link ps before after → newest_on k after ≡ newest_on k before
others-newest s link k [] before after other found = ap (newest_on k) found
others-newest s link k (p ∷ ps) before after other (f, comes, more) = others-newest s link k ps (found_on link f ∷ before) after other more ∙ passes link k f before other

links-later : (ls : List LinkState) (ps : List LinkPast) (n : ℕ) (before after : List Found) → ((k : ℕ) → n ≤ k → newest_on k after ≡ newest_on k before) → RepresentLinks ls ps n before → RepresentLinks ls ps n after
links-later [] [] n before after same a = a
links-later [] (p ∷ ps) n before after same a = a
links-later (l ∷ ls) [] n before after same a = a
links-later (l ∷ ls) (p ∷ ps) n before after same a = (
  record { closed = a.0.closed; waiting = a.0.waiting; newest = a.0.newest ∙ sym (same n (omega arith)) },
  links-later ls ps (suc n) before after (λ k le. same k (omega arith)) a.1,
)

pub links-fed : (i k n : ℕ) (piece : List ℕ) (l new : LinkState) (ls : List LinkState) (ps : List LinkPast) (before after : List Found) → RepresentLinks ls ps n before → slice_get ls i ≡ Some l → k ≡ n + i
    → ((p : LinkPast) → RepresentsLink l p k before → RepresentsLink new (record { fed = p.fed ++ piece; is_closed = p.is_closed }) k after) → ((j : ℕ) → j ≢ k → newest_on j after ≡ newest_on j before)
    → RepresentLinks (set ls i new) (with_piece i piece ps) n after
links-fed i k n piece l new [] ps before after a e number changed same = absurd cc
links-fed i k n piece l new (x ∷ xs) [] before after a e number changed same = absurd a
links-fed zero k n piece l new (x ∷ xs) (p ∷ ps) before after a e number changed same =
    let first : k ≡ n = omega arith in
    let here : x ≡ l = cc in (
      subst (λ (m : ℕ). RepresentsLink new (record { fed = p.fed ++ piece; is_closed = p.is_closed }) m after) first
          (changed p (subst (λ (m : ℕ). RepresentsLink l p m before) (sym first) (subst (λ (y : LinkState). RepresentsLink y p n before) here a.0))),
      links-later xs ps (suc n) before after (λ j le. same j (λ q. omega arith)) a.1,
    )
links-fed (suc i) k n piece l new (x ∷ xs) (p ∷ ps) before after a e number changed same = (
  record { closed = a.0.closed; waiting = a.0.waiting; newest = a.0.newest ∙ sym (same n (λ q. omega arith)) },
  links-fed i k (suc n) piece l new xs ps before after a.1 e (omega arith) changed same,
)

pub links-closed : (i k n : ℕ) (l new : LinkState) (ls : List LinkState) (ps : List LinkPast) (before after : List Found) → RepresentLinks ls ps n before → slice_get ls i ≡ Some l → k ≡ n + i
    → ((p : LinkPast) → RepresentsLink l p k before → RepresentsLink new (record { fed = p.fed; is_closed = true }) k after) → ((j : ℕ) → j ≢ k → newest_on j after ≡ newest_on j before)
    → RepresentLinks (set ls i new) (with_closed i ps) n after
links-closed i k n l new [] ps before after a e number changed same = absurd cc
links-closed i k n l new (x ∷ xs) [] before after a e number changed same = absurd a
links-closed zero k n l new (x ∷ xs) (p ∷ ps) before after a e number changed same =
    let first : k ≡ n = omega arith in
    let here : x ≡ l = cc in (
      subst (λ (m : ℕ). RepresentsLink new (record { fed = p.fed; is_closed = true }) m after) first
          (changed p (subst (λ (m : ℕ). RepresentsLink l p m before) (sym first) (subst (λ (y : LinkState). RepresentsLink y p n before) here a.0))),
      links-later xs ps (suc n) before after (λ j le. same j (λ q. omega arith)) a.1,
    )
links-closed (suc i) k n l new (x ∷ xs) (p ∷ ps) before after a e number changed same = (
  record { closed = a.0.closed; waiting = a.0.waiting; newest = a.0.newest ∙ sym (same n (λ q. omega arith)) },
  links-closed i k (suc n) l new xs ps before after a.1 e (omega arith) changed same,
)

-- ---- nothing was fed yet

nothing-waits : pending [] ≡ []
unfolding spec.pending_from
nothing-waits = refl

pub links-new : (count n : ℕ) → RepresentLinks (replicate count (record { scanner = scanner_view [] false; newest = None })) (replicate count (record { fed = []; is_closed = false })) n []
links-new zero n = tt
links-new (suc count) n = (record { closed = refl; waiting = λ q. sym nothing-waits; newest = refl }, links-new count (suc n))

-- ---- a piece

pub feeds : {old : ConverterView} {conversion : ConversionView} {i : ℕ} {piece : List ℕ} {l new : LinkState} {o o' : Written}
    → slice_get old.links i ≡ Some l → l.scanner.ended ≡ false → conversion.stopped ≡ false → new.scanner.ended ≡ false → new.scanner.pending ≡ pending (l.scanner.pending ++ piece)
    → AddsFrames old.conversion i (payloads (final_frames (l.scanner.pending ++ piece))) conversion l.newest new.newest o o'
    → FeedsPiece old i piece (record { conversion = conversion; links = set old.links i new }) o o'
feeds {old} {conversion} {i} {piece} {l} {new} {o} {o'} there unended going still waits gathers = λ h r.
    let at = link-at i i 0 l old.links h.links h.found r.links there (omega arith) in
    let is_open : at.past.is_closed ≡ false = sym at.is.closed ∙ unended in
    let (after, g) = gathers h.found r.found in
    let found : payloads (final_frames (l.scanner.pending ++ piece)) ≡ found_by_piece (fed_on i h.links) piece =
    ap (λ t. payloads (final_frames (t ++ piece))) (at.is.waiting is_open ∙ ap pending (sym at.fed)) ∙ sym (found-pending (fed_on i h.links) piece) in (
      record { links = with_piece i piece h.links; found = after },
      record { links = refl; found = subst (λ (ps : List (List ℕ)). Finds old.conversion.setup i ps h.found after) found g.finds },
      record {
        going = going;
        links = links-fed i i 0 piece l new old.links h.links h.found after r.links there (omega arith)
            (λ p is. record {
              closed = still ∙ sym unended ∙ is.closed;
              waiting = λ q. waits ∙ ap (λ t. pending (t ++ piece)) (is.waiting q) ∙ sym (pending_cut p.fed piece);
              newest = g.newest is.newest;
            })
            (λ j other. others-newest old.conversion.setup i j (payloads (final_frames (l.scanner.pending ++ piece))) h.found after other g.finds);
        found = g.represents;
      },
      g.writes,
    )

pub feeds-part : {old : ConverterView} {i : ℕ} (piece : List ℕ) {l : LinkState} {o o' : Written}
    → slice_get old.links i ≡ Some l → l.scanner.ended ≡ false
    → AddsFramesInPart old.conversion i (payloads (final_frames (l.scanner.pending ++ piece))) o o' → FeedsPieceInPart old i piece o o'
feeds-part {old} {i} piece {l} {o} {o'} there unended gathers = λ h r.
    let at = link-at i i 0 l old.links h.links h.found r.links there (omega arith) in
    let is_open : at.past.is_closed ≡ false = sym at.is.closed ∙ unended in
    let found : payloads (final_frames (l.scanner.pending ++ piece)) ≡ found_by_piece (fed_on i h.links) piece =
    ap (λ t. payloads (final_frames (t ++ piece))) (at.is.waiting is_open ∙ ap pending (sym at.fed)) ∙ sym (found-pending (fed_on i h.links) piece) in
    subst (λ (ps : List (List ℕ)). BreaksOffAt old.conversion.setup i ps h.found o o') found (gathers h.found r.found)

-- ---- a close

pub closes : {old : ConverterView} {conversion : ConversionView} {i : ℕ} {l : LinkState} (new : LinkState) {o o' : Written}
    → slice_get old.links i ≡ Some l → l.scanner.ended ≡ false → conversion.stopped ≡ false → new.scanner.ended ≡ true
    → AddsFrames old.conversion i (payloads (frames l.scanner.pending)) conversion l.newest new.newest o o'
    → ClosesLink old i (record { conversion = conversion; links = set old.links i new }) o o'
closes {old} {conversion} {i} {l} new {o} {o'} there unended going ended gathers = λ h r.
    let at = link-at i i 0 l old.links h.links h.found r.links there (omega arith) in
    let is_open : at.past.is_closed ≡ false = sym at.is.closed ∙ unended in
    let (after, g) = gathers h.found r.found in
    let found : payloads (frames l.scanner.pending) ≡ found_by_close (fed_on i h.links) =
    ap (λ t. payloads (frames t)) (at.is.waiting is_open ∙ ap pending (sym at.fed)) ∙ sym (found-left (fed_on i h.links)) in (
      record { links = with_closed i h.links; found = after },
      record { links = refl; found = subst (λ (ps : List (List ℕ)). Finds old.conversion.setup i ps h.found after) found g.finds },
      record {
        going = going;
        links = links-closed i i 0 l new old.links h.links h.found after r.links there (omega arith)
            (λ p is. record { closed = ended; waiting = λ q. absurd cc; newest = g.newest is.newest })
            (λ j other. others-newest old.conversion.setup i j (payloads (frames l.scanner.pending)) h.found after other g.finds);
        found = g.represents;
      },
      g.writes,
    )

pub closes-part : {old : ConverterView} {i : ℕ} {l : LinkState} {o o' : Written}
    → slice_get old.links i ≡ Some l → l.scanner.ended ≡ false
    → AddsFramesInPart old.conversion i (payloads (frames l.scanner.pending)) o o' → ClosesLinkInPart old i o o'
closes-part {old} {i} {l} {o} {o'} there unended gathers = λ h r.
    let at = link-at i i 0 l old.links h.links h.found r.links there (omega arith) in
    let is_open : at.past.is_closed ≡ false = sym at.is.closed ∙ unended in
    let found : payloads (frames l.scanner.pending) ≡ found_by_close (fed_on i h.links) =
    ap (λ t. payloads (frames t)) (at.is.waiting is_open ∙ ap pending (sym at.fed)) ∙ sym (found-left (fed_on i h.links)) in
    subst (λ (ps : List (List ℕ)). BreaksOffAt old.conversion.setup i ps h.found o o') found (gathers h.found r.found)
