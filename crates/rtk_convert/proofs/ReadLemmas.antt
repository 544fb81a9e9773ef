-- One read of one of many links.
use Rattle.std.proofs.Common.{◌≡◌, ◌≢◌, ℕ, ◌+◌, ◌<◌, ◌≤◌, ◌==◌, inl, inr, zero, suc, Bool, true, false, None, Some, List, [], ◌∷◌, length, take, Option, Result, Ok, Err, refl, sym, ap, subst, ◌∙◌, arith}
use Rattle.std.specs.Prelude.{slice_index_or, slice_get, sum_by, IfErr}
use Rattle.std.proofs.lemmas.Bool.{cases_eq, cases_lt}
use Rattle.std.proofs.lemmas.List.{get_or_default, length-take-le}
use Rattle.rtk_frame.specs.Stream.{greatest_count, with_more, ReadsOne}
use Rattle.rtk_frame.proofs.PublicLaws.{with_more-nil, with_more-with_more, sum_calls-at_most, sum_calls-one}
use Rattle.rtk_convert.specs.declared.fault.ConvertFault.{ConvertFault}
use Rattle.rtk_convert.specs.declared.fault.ConvertFault.TheVariants.{Setup, NoLink, LinkClosed, OutOfMemory, Write, Read as ReadFault, Endless, Stopped}
use Rattle.rtk_convert.specs.declared.link_state.LinkState.{LinkState}
use Rattle.rtk_convert.specs.Failure.{IsFrameFault}
use Rattle.rtk_convert.specs.Steps.Faults.{IsReadFault}
use Rattle.rtk_convert.specs.FrameClass.{Found}
use Rattle.rtk_convert.specs.Converter.{ConverterView, RepresentLinks, link_refusal, refusal, RepresentsHistory, WritesOn, BreaksOffAt}
use Rattle.rtk_convert.specs.History.{History, LinkPast, IsOpen, IsNextLink, IsAfterFeed, IsAfterClose, fed_on, found_by_piece, found_by_close}
use Rattle.rtk_convert.specs.ReadSteps.{read_of, found_by_read, AnyAtGreatest, HasCalled, SameFailures}
use Rattle.rtk_convert.specs.Steps.ReadLink.{CallsOne, ReadsLink, BreaksOffAfterRead}
use Rattle.rtk_convert.specs.ReadHistory.{Read, piece_on, bytes_of, IsAfterPiece, Gave}
use Rattle.rtk_setup.specs.Setup.{SetupView}
use Rattle.rtk_convert.specs.Writing.{Written}

-- ---- the counts of calls

pub calls-at_most : {R E : Type 0} (given : R → Option (List ℕ)) (failures calls : R → ℕ) (before after : List R) (link : ℕ) (result : Result ℕ E) (buf : List ℕ)
    → link < length before → ReadsOne given failures calls before after link result buf → sum_by calls after ≤ sum_by calls before + 1
calls-at_most given failures calls [] after link result buf within read = absurd (omega arith)
calls-at_most given failures calls (x ∷ xs) after link result buf within read = sum_calls-at_most given failures calls (x ∷ xs) after link result buf x within read

called-by : {R E : Type 0} (given : R → Option (List ℕ)) (failures calls : R → ℕ) (before after : List R) (link : ℕ) (result : Result ℕ E) (buf : List ℕ) (x : R)
    → link < length before → ReadsOne given failures calls before after link result buf → HasCalled calls before after 1
called-by given failures calls before after link result buf x within read = elim (cases_lt (calls (slice_index_or before link x)) greatest_count) [
  | inl below ↦ inl (sum_calls-one given failures calls before after link result buf x within read below)
  | inr full ↦ inr (
    link,
    omega (arith, within, read.as_many),
    λ none. let same : calls (slice_index_or before link none) ≡ calls (slice_index_or before link x) = ap calls (get_or_default before link none x within) in
        let one = read.called none in
        grind (arith, same, one, full),
  )
]

pub called : {R E : Type 0} (given : R → Option (List ℕ)) (failures calls : R → ℕ) (before after : List R) (link : ℕ) (result : Result ℕ E) (buf : List ℕ)
    → link < length before → ReadsOne given failures calls before after link result buf → HasCalled calls before after 1
called given failures calls [] after link result buf within read = absurd (omega arith)
called given failures calls (x ∷ xs) after link result buf within read = called-by given failures calls (x ∷ xs) after link result buf x within read

-- a count at its greatest value stays there
pub stays-full : {R E : Type 0} (given : R → Option (List ℕ)) (failures calls : R → ℕ) (before after : List R) (link : ℕ) (result : Result ℕ E) (buf : List ℕ)
    → ReadsOne given failures calls before after link result buf → AnyAtGreatest calls before → AnyAtGreatest calls after
stays-full given failures calls before after link result buf read full = (
  full.0,
  (let lt = full.1 in omega (arith, lt, read.as_many)),
  λ none. elim (cases_eq full.0 link) [
    | inl same ↦ (let one = read.called none in
        let was : greatest_count ≤ calls (slice_index_or before link none) = subst (λ (k : ℕ). greatest_count ≤ calls (slice_index_or before k none)) same (full.2 none) in
        subst (λ (k : ℕ). greatest_count ≤ calls (slice_index_or after k none)) (sym same) (grind (arith, one, was)))
    | inr other ↦ subst (λ (n : ℕ). greatest_count ≤ n) (sym (ap calls (read.others full.0 none other))) (full.2 none)
  ],
)

pub calls-one : {R E : Type 0} (given : R → Option (List ℕ)) (failures calls : R → ℕ) (before after : List R) (link : ℕ) (result : Result ℕ E) (buf : List ℕ)
    → link < length before → ReadsOne given failures calls before after link result buf → CallsOne calls before after
calls-one given failures calls before after link result buf within read = record {
  as_many = read.as_many;
  reads = calls-at_most given failures calls before after link result buf within read;
  called = called given failures calls before after link result buf within read;
  full = stays-full given failures calls before after link result buf read;
}

pub called-more : {R : Type 0} (calls : R → ℕ) (a b c : List R) (n : ℕ) → HasCalled calls a b n → (AnyAtGreatest calls b → AnyAtGreatest calls c) → HasCalled calls b c 1 → HasCalled calls a c (n + 1)
called-more calls a b c n (inr full) stays one = inr (stays full)
called-more calls a b c n (inl p) stays (inr full) = inr full
called-more calls a b c n (inl p) stays (inl q) = inl (omega (arith, p, q))

-- ---- what the readers gave

piece-here : (k : ℕ) (piece : List ℕ) → piece_on k (read_of k piece) ≡ piece
piece-here k piece = let e : (k == k) ≡ true = grind arith in rw e refl

piece-other : (k link : ℕ) (piece : List ℕ) → k ≢ link → piece_on k (read_of link piece) ≡ []
piece-other k link piece other = let e : (link == k) ≡ false = grind arith in rw e refl

pub gave-read : {R E : Type 0} (given : R → Option (List ℕ)) (failures calls : R → ℕ) (before after : List R) (link count : ℕ) (buf : List ℕ)
    → ReadsOne {R = R} {E = E} given failures calls before after link (Ok count) buf → Gave given before after (read_of link (take count buf) ∷ [])
gave-read given failures calls before after link count buf read = record {
  as_many = read.as_many;
  bytes = λ k none lt. elim (cases_eq k link) [
    | inl same ↦ subst (λ (i : ℕ). given (slice_index_or after i none) ≡ with_more (given (slice_index_or before i none)) (piece_on i (read_of link (take count buf)))) (sym same)
        (read.gives none ∙ ap (with_more (given (slice_index_or before link none))) (sym (piece-here link (take count buf))))
    | inr other ↦ ap given (read.others k none other) ∙ sym (with_more-nil (given (slice_index_or before k none)))
        ∙ ap (with_more (given (slice_index_or before k none))) (sym (piece-other k link (take count buf) other))
  ];
}

pub gave-none : {R : Type 0} (given : R → Option (List ℕ)) (readers : List R) → Gave given readers readers []
gave-none given readers = record { as_many = refl; bytes = λ k none lt. sym (with_more-nil (given (slice_index_or readers k none))) }

pub gave-more : {R : Type 0} (given : R → Option (List ℕ)) (a b c : List R) (reads : List Read) (r : Read)
    → Gave given a b reads → Gave given b c (r ∷ []) → Gave given a c (r ∷ reads)
gave-more given a b c reads r p q = record {
  as_many = q.as_many ∙ p.as_many;
  bytes = λ k none lt.
      let within : k < length b = omega (arith, lt, p.as_many) in
      q.bytes k none within ∙ ap (λ o. with_more o (piece_on k r)) (p.bytes k none lt)
      ∙ with_more-with_more (given (slice_index_or a k none)) (bytes_of k reads) (piece_on k r);
}

-- ---- a read that did not fail

pub no-failed : {R E : Type 0} (given : R → Option (List ℕ)) (failures calls : R → ℕ) (before after : List R) (link count : ℕ) (buf : List ℕ)
    → ReadsOne {R = R} {E = E} given failures calls before after link (Ok count) buf → SameFailures failures before after
no-failed given failures calls before after link count buf read = λ k none. elim (cases_eq k link) [
  | inl same ↦ subst (λ (i : ℕ). failures (slice_index_or after i none) ≡ failures (slice_index_or before i none)) (sym same) (read.fails none)
  | inr other ↦ ap failures (read.others k none other)
]

-- ---- what a read comes to

after-some : (s : SetupView) (h : History) (link : ℕ) (piece : List ℕ) (next : History) → 0 < length piece → IsAfterFeed s h link piece next → IsAfterPiece s h link piece next
after-some s h link [] next some after = absurd (omega arith)
after-some s h link (x ∷ piece) next some after = after

found-some : (link : ℕ) (h : History) (piece : List ℕ) → 0 < length piece → found_by_read link h piece ≡ found_by_piece (fed_on link h.links) piece
found-some link h [] some = absurd (omega arith)
found-some link h (x ∷ piece) some = refl

pub reads-piece : {R E : Type 0} (given : R → Option (List ℕ)) (is_at_end : R → Type 0) (failures calls : R → ℕ) (s : SetupView) (h : History) (link count : ℕ) (before after : List R) (buf : List ℕ)
    (new : ConverterView) (o o' : Written) → count ≢ 0 → count ≤ length buf → length buf ≡ 512 → IsNextLink h link
    → ReadsOne {R = R} {E = E} given failures calls before after link (Ok count) buf
    → ((next : History) × IsAfterFeed s h link (take count buf) next × RepresentsHistory new next × WritesOn s h.found next.found o o')
    → ReadsLink given is_at_end s h link before after new o o'
reads-piece given is_at_end failures calls s h link count before after buf new o o' some bound room is_next read fed =
    let long = length-take-le count buf bound in
    record {
      piece = take count buf;
      next = fed.0;
      is_next = record {
        link = is_next;
        few = omega (arith, long);
        after = after-some s h link (take count buf) fed.0 (omega (arith, long, some)) fed.1;
      };
      gave = gave-read given failures calls before after link count buf read;
      others = read.others;
      at_end = λ none empty. let l = ap length empty in absurd (some (omega (arith, l, long)));
      represents = fed.2;
      writes = fed.3;
    }

pub reads-end : {R E : Type 0} (given : R → Option (List ℕ)) (is_at_end : R → Type 0) (failures calls : R → ℕ) (s : SetupView) (h : History) (link count : ℕ) (before after : List R) (buf : List ℕ)
    (new : ConverterView) (o o' : Written) → count ≡ 0 → IsNextLink h link
    → ReadsOne {R = R} {E = E} given failures calls before after link (Ok count) buf → ((none : R) → is_at_end (slice_index_or after link none))
    → ((next : History) × IsAfterClose s h link next × RepresentsHistory new next × WritesOn s h.found next.found o o')
    → ReadsLink given is_at_end s h link before after new o o'
reads-end given is_at_end failures calls s h link count before after buf new o o' none is_next read ended closed = record {
  piece = [];
  next = closed.0;
  is_next = record { link = is_next; few = omega arith; after = closed.1 };
  gave = subst (λ (n : ℕ). Gave given before after (read_of link (take n buf) ∷ [])) none (gave-read given failures calls before after link count buf read);
  others = read.others;
  at_end = λ x _. ended x;
  represents = closed.2;
  writes = closed.3;
}

pub breaks-piece : {R E : Type 0} (given : R → Option (List ℕ)) (failures calls : R → ℕ) (s : SetupView) (h : History) (link count : ℕ) (before after : List R) (buf : List ℕ)
    (o o' : Written) → count ≢ 0 → count ≤ length buf → length buf ≡ 512
    → ReadsOne {R = R} {E = E} given failures calls before after link (Ok count) buf
    → BreaksOffAt s link (found_by_piece (fed_on link h.links) (take count buf)) h.found o o'
    → BreaksOffAfterRead given s h link before after o o'
breaks-piece given failures calls s h link count before after buf o o' some bound room read breaks =
    let long = length-take-le count buf bound in
    record {
      piece = take count buf;
      few = omega (arith, long);
      gave = gave-read given failures calls before after link count buf read;
      breaks = subst (λ (ps : List (List ℕ)). BreaksOffAt s link ps h.found o o') (sym (found-some link h (take count buf) (omega (arith, long, some)))) breaks;
    }

pub breaks-end : {R E : Type 0} (given : R → Option (List ℕ)) (failures calls : R → ℕ) (s : SetupView) (h : History) (link count : ℕ) (before after : List R) (buf : List ℕ)
    (o o' : Written) → count ≡ 0
    → ReadsOne {R = R} {E = E} given failures calls before after link (Ok count) buf
    → BreaksOffAt s link (found_by_close (fed_on link h.links)) h.found o o'
    → BreaksOffAfterRead given s h link before after o o'
breaks-end given failures calls s h link count before after buf o o' none read breaks = record {
  piece = [];
  few = omega arith;
  gave = subst (λ (n : ℕ). Gave given before after (read_of link (take n buf) ∷ [])) none (gave-read given failures calls before after link count buf read);
  breaks = breaks;
}

-- ---- a link that is open is not refused

abbrev closed_or : Option LinkPast → Bool
closed_or None = false
closed_or (Some p) = p.is_closed

frame-read : (fault : ConvertFault) → IsFrameFault fault → IsReadFault fault
frame-read OutOfMemory p = p
frame-read (Write stream) p = p
frame-read Setup p = p
frame-read NoLink p = p
frame-read LinkClosed p = p
frame-read (ReadFault link) p = absurd p
frame-read Endless p = p
frame-read Stopped p = p

link-goes : (ls : List LinkState) (ps : List LinkPast) (n : ℕ) (found : List Found) (link : ℕ) (fed : List ℕ) → RepresentLinks ls ps n found
    → slice_get ps link ≡ Some (record { fed = fed; is_closed = false }) → link_refusal (slice_get ls link) ≡ None
link-goes [] [] n found link fed are is = absurd (cc)
link-goes [] (p ∷ ps) n found link fed are is = absurd are
link-goes (l ∷ ls) [] n found link fed are is = absurd are
link-goes (l ∷ ls) (p ∷ ps) n found zero fed are is =
    let e : l.scanner.ended ≡ false = are.0.closed ∙ ap (λ (x : Option LinkPast). closed_or x) is in
    rw e refl
link-goes (l ∷ ls) (p ∷ ps) n found (suc link) fed are is = link-goes ls ps (suc n) found link fed are.1 is

pub open-goes : (c : ConverterView) (h : History) (link : ℕ) → RepresentsHistory c h → IsOpen h link → refusal c link ≡ None
open-goes c h link r o = rw r.going (link-goes c.links h.links 0 h.found link o.0 r.links o.1)

-- so its call breaks off only for memory or a write
pub fault-read : {T : Type 0} {P Q : History → Type 0} (r : Result T ConvertFault) → ((h : History) → P h → Q h → IfErr r IsFrameFault)
    → IfErr r (λ fault. (h : History) → P h → Q h → IsReadFault fault)
fault-read (Ok x) f = tt
fault-read (Err fault) f = λ h p q. frame-read fault (f h p q)
