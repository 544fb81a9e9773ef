-- All reads of a run.
use Rattle.std.proofs.Common.{◌≡◌, ℕ, ◌+◌, zero, suc, inl, inr, ◌⊎◌, false, ◌<◌, List, [], ◌∷◌, ◌++◌, length, Option, refl, sym, ap, subst, ◌∙◌, arith}
use Rattle.std.specs.Prelude.{slice_index_or}
use Rattle.std.proofs.lemmas.Bool.{cases_lt}
use Rattle.std.proofs.lemmas.List.{append_assoc, length-replicate}
use Rattle.rtk_frame.specs.Stream.{with_more, CountRises}
use Rattle.rtk_frame.proofs.PublicLaws.{with_more-nil, with_more-with_more}
use Rattle.rtk_convert.specs.Converter.{IsLinkCount, ConverterView, WritesInto, IsAfterClosingAll, FinishesConverterAs, BreaksOffClosing, BreaksOffFinishing}
use Rattle.rtk_setup.specs.declared.counts.Counts.{Counts}
use Rattle.rtk_convert.specs.declared.fault.ConvertFault.{ConvertFault}
use Rattle.rtk_convert.specs.declared.fault.ConvertFault.TheVariants.{Setup, NoLink, LinkClosed, OutOfMemory, Write, Read as ReadFault, Endless, Stopped}
use Rattle.rtk_convert.specs.Failure.{IsFrameFault, IsReadingFault, IsRunFault}
use Rattle.rtk_convert.specs.Steps.Faults.{IsReadFault}
use Rattle.rtk_convert.specs.Conversion.{found_on}
use Rattle.rtk_convert.specs.File.{records}
use Rattle.rtk_convert.specs.FileOfArrivals.{file_so_far, kept_file}
use Rattle.rtk_convert.specs.FrameClass.{arrivals}
use Rattle.rtk_convert.specs.Finish.{all_counts, report_of}
use Rattle.rtk_convert.specs.History.{History, LinkPast, new_history, IsOpen, IsNextLink, with_piece, with_closed}
use Rattle.rtk_convert.specs.ReadSteps.{read_of, HasRead, HasCalled}
use Rattle.rtk_convert.specs.Steps.ReadLink.{ReadsLink, BreaksOffAfterRead, FailsRead, HasReadAll}
use Rattle.rtk_convert.specs.ReadHistory.{Read, AllClosed, AllAtEnd, IsHistoryOf, IsAfterPiece, Gave}
use Rattle.rtk_convert.specs.Report.{lines}
use Rattle.rtk_convert.specs.Run.{BreaksOffReading, BreaksOffAtEnd, FailsReading}
use Rattle.rtk_setup.specs.Setup.{SetupView}
use Rattle.rtk_convert.specs.Writing.{Written, WritesRest}
use Rattle.rtk_convert.proofs.ReadLemmas.{gave-none, gave-more}

-- ---- how many links there are

pub length-with_piece : (k : ℕ) (piece : List ℕ) (ps : List LinkPast) → length (with_piece k piece ps) ≡ length ps
length-with_piece k piece [] = refl
length-with_piece zero piece (p ∷ ps) = refl
length-with_piece (suc k) piece (p ∷ ps) = ap suc (length-with_piece k piece ps)

pub length-with_closed : (k : ℕ) (ps : List LinkPast) → length (with_closed k ps) ≡ length ps
length-with_closed k [] = refl
length-with_closed zero (p ∷ ps) = refl
length-with_closed (suc k) (p ∷ ps) = ap suc (length-with_closed k ps)

length-after : (s : SetupView) (h : History) (link : ℕ) (piece : List ℕ) (next : History) → IsAfterPiece s h link piece next → length next.links ≡ length h.links
length-after s h link [] next after = ap length after.links ∙ length-with_closed link h.links
length-after s h link (x ∷ piece) next after = ap length after.links ∙ length-with_piece link (x ∷ piece) h.links

pub length-links : (s : SetupView) (links : ℕ) (reads : List Read) (h : History) → IsHistoryOf s links reads h → length h.links ≡ links
length-links s links [] h p = ap (λ (x : History). length x.links) p ∙ length-replicate links (record { fed = []; is_closed = false })
length-links s links (r ∷ before) h p = length-after s p.0 r.link r.piece h p.2.after ∙ length-links s links before p.0 p.1

-- ---- what is out

pub so_far-nothing : (s : SetupView) → file_so_far s [] ≡ []
unfolding records
so_far-nothing s = refl

-- what was written after all that was out before
pub written-on : (a b c : Option (List ℕ)) (x y : List ℕ) → b ≡ with_more a x → WritesRest b c x y → c ≡ with_more a y
written-on a b c x y p w = w.2 ∙ ap (λ o. with_more o w.0) p ∙ with_more-with_more a x w.0 ∙ ap (with_more a) (sym w.1)

pub has_read-nothing : {R : Type 0} (given : R → Option (List ℕ)) (s : SetupView) (readers : List R) (o : Written)
    → HasRead given s readers readers [] (new_history (length readers)) o o
has_read-nothing given s readers o = record {
  comes_to = refl;
  gave = gave-none given readers;
  out = sym (with_more-nil o.file) ∙ ap (with_more o.file) (sym (so_far-nothing s));
  log = sym (with_more-nil o.report);
}

pub has_read-more : {R : Type 0} (given : R → Option (List ℕ)) (is_at_end : R → Type 0) (s : SetupView) (h : History) (link : ℕ) (before mid after : List R) (reads : List Read) (new : ConverterView) (o0 o1 o2 : Written)
    → HasRead given s before mid reads h o0 o1 → (p : ReadsLink given is_at_end s h link mid after new o1 o2)
    → HasRead given s before after (read_of link p.piece ∷ reads) p.next o0 o2
has_read-more given is_at_end s h link before mid after reads new o0 o1 o2 q p = record {
  comes_to = (h, q.comes_to, p.is_next);
  gave = gave-more given before mid after reads (read_of link p.piece) q.gave p.gave;
  out = written-on o0.file o1.file o2.file (file_so_far s (arrivals h.found)) (file_so_far s (arrivals p.next.found)) q.out p.writes.out;
  log = written-on o0.report o1.report o2.report (lines s h.found) (lines s p.next.found) q.log p.writes.log;
}

-- ---- the run breaks off

into : (a b c : Option (List ℕ)) (x y z : List ℕ) → b ≡ with_more a x → WritesInto b c x y z → WritesInto a c [] y z
into a b c x y z p w = (x ++ w.0, w.1, w.2, w.3, w.4, w.5 ∙ ap (λ o. with_more o (w.0 ++ w.1)) p ∙ with_more-with_more a x (w.0 ++ w.1) ∙ ap (with_more a) (sym (append_assoc x w.0 w.1)))

pub breaks-reading : {R : Type 0} (given : R → Option (List ℕ)) (calls : R → ℕ) (s : SetupView) (h : History) (link : ℕ) (before mid after : List R) (reads : List Read) (o0 o1 o2 : Written)
    → HasRead given s before mid reads h o0 o1 → IsNextLink h link → BreaksOffAfterRead given s h link mid after o1 o2 → HasCalled calls before after (length reads + 1)
    → BreaksOffReading given calls s before after o0 o2
breaks-reading given calls s h link before mid after reads o0 o1 o2 q n p called = record {
  reads = reads;
  history = h;
  comes_to = q.comes_to;
  link = link;
  is_next = n;
  piece = p.piece;
  few = p.few;
  gave = gave-more given before mid after reads (read_of link p.piece) q.gave p.gave;
  called = called;
  cut = record {
    done = p.breaks.done;
    payload = p.breaks.payload;
    left = p.breaks.left;
    split = p.breaks.split;
    found = p.breaks.found;
    finds = p.breaks.finds;
    class = p.breaks.class;
    comes = p.breaks.comes;
    out = subst (λ (t : List ℕ). WritesInto o0.file o2.file t (file_so_far s (arrivals p.breaks.found)) (file_so_far s (arrivals (found_on link p.breaks.class ∷ p.breaks.found)))) (sym (so_far-nothing s))
        (into o0.file o1.file o2.file _ _ _ q.out p.breaks.out);
    log = into o0.report o1.report o2.report _ _ _ q.log p.breaks.log;
  };
}

pub gave-same : {R : Type 0} (given : R → Option (List ℕ)) (a b c : List R) (reads : List Read) → Gave given a b reads → Gave given b c [] → Gave given a c reads
gave-same given a b c reads p q = record {
  as_many = q.as_many ∙ p.as_many;
  bytes = λ k none lt.
      let within : k < length b = omega (arith, lt, p.as_many) in
      q.bytes k none within ∙ with_more-nil (given (slice_index_or b k none)) ∙ p.bytes k none lt;
}

pub fails-reading : {R : Type 0} (given : R → Option (List ℕ)) (failures calls : R → ℕ) (s : SetupView) (h : History) (link : ℕ) (before mid after : List R) (reads : List Read) (o0 o1 o2 : Written)
    → HasRead given s before mid reads h o0 o1 → IsNextLink h link → ((k : ℕ) (none : R) → failures (slice_index_or mid k none) ≡ failures (slice_index_or before k none))
    → FailsRead given failures link mid after o1 o2 → HasCalled calls before after (length reads + 1) → FailsReading given failures calls s link before after o0 o2
fails-reading given failures calls s h link before mid after reads o0 o1 o2 q n same p called = record {
  reads = reads;
  history = h;
  has_read = record {
    comes_to = q.comes_to;
    gave = gave-same given before mid after reads q.gave p.gave;
    out = ap (λ (o : Written). o.file) p.written ∙ q.out;
    log = ap (λ (o : Written). o.report) p.written ∙ q.log;
  };
  called = called;
  is_next = n;
  failed = λ none. subst (λ (x : ℕ). CountRises x (failures (slice_index_or after link none))) (same link none) (p.failed none);
}

-- ---- the end

-- all links were read to their ends, by as many calls as there are reads, and the file and the
-- report of what they gave are written
pub record RunsAs {R : Type 0} (given : R → Option (List ℕ)) (calls : R → ℕ) (is_at_end : R → Type 0) (s : SetupView) (before after : List R) (counts : Counts) (written_old written_new : Written) : Type 0 where
  pub reads : List Read
  pub history : History
  pub comes_to : IsHistoryOf s (length before) reads history
  pub closed : AllClosed history
  pub gave : Gave given before after reads
  pub called : HasCalled calls before after (length reads)
  pub at_end : AllAtEnd is_at_end after
  pub out : written_new.file ≡ with_more written_old.file (kept_file s (arrivals history.found))
  pub log : written_new.report ≡ with_more written_old.report (report_of s history.found)
  pub counts_are : counts ≡ all_counts s history.found

-- closed links are left as they are
pub closing-none : (s : SetupView) (h : History) (n : ℕ) (last : History) → AllClosed h → IsAfterClosingAll s h n last → last ≡ h
closing-none s h zero last closed p = p
closing-none s h (suc n) last closed p =
    let same = closing-none s h n p.0 closed p.1 in
    elim p.2 [
      | inl opened ↦ absurd (closed n (subst (λ (x : History). IsOpen x n) same opened.0))
      | inr stays ↦ stays.1 ∙ same
    ]

pub runs-as : {R : Type 0} (given : R → Option (List ℕ)) (calls : R → ℕ) (is_at_end : R → Type 0) (s : SetupView) (before after : List R) (converter : ConverterView) (counts : Counts) (o0 o1 o2 : Written)
    → (p : HasReadAll given calls is_at_end s before after converter o0 o1) → (last : History) → FinishesConverterAs s p.history last counts o1 o2
    → RunsAs given calls is_at_end s before after counts o0 o2
runs-as given calls is_at_end s before after converter counts o0 o1 o2 p last e =
    let same = closing-none s p.history (length p.history.links) last p.closed e.closed in
    record {
      reads = p.reads;
      history = p.history;
      comes_to = p.has_read.comes_to;
      closed = p.closed;
      gave = p.has_read.gave;
      called = p.called;
      at_end = p.at_end;
      out = written-on o0.file o1.file o2.file (file_so_far s (arrivals p.history.found)) (kept_file s (arrivals last.found)) p.has_read.out e.out ∙ ap (λ (h : History). with_more o0.file (kept_file s (arrivals h.found))) same;
      log = written-on o0.report o1.report o2.report (lines s p.history.found) (report_of s last.found) p.has_read.log e.log ∙ ap (λ (h : History). with_more o0.report (report_of s h.found)) same;
      counts_are = e.counts_are ∙ ap (λ (h : History). all_counts s h.found) same;
    }

-- once all links were closed, the end breaks off with no frame in hand
pub breaks-ending : {R : Type 0} (given : R → Option (List ℕ)) (calls : R → ℕ) (is_at_end : R → Type 0) (s : SetupView) (before after : List R) (converter : ConverterView) (o0 o1 o2 : Written)
    → (p : HasReadAll given calls is_at_end s before after converter o0 o1)
    → ((link : ℕ) × BreaksOffClosing s p.history link o1 o2) ⊎ BreaksOffFinishing s p.history o1 o2
    → BreaksOffAtEnd given calls is_at_end s before after o0 o2
breaks-ending given calls is_at_end s before after converter o0 o1 o2 p (inl breaks) =
    let same = closing-none s p.history breaks.0 breaks.1.mid p.closed breaks.1.closed in
    absurd (p.closed breaks.0 (subst (λ (h : History). IsOpen h breaks.0) same breaks.1.is_open))
breaks-ending given calls is_at_end s before after converter o0 o1 o2 p (inr breaks) =
    let same = closing-none s p.history (length p.history.links) breaks.last p.closed breaks.closed in
    record {
      reads = p.reads;
      history = p.history;
      comes_to = p.has_read.comes_to;
      closed = p.closed;
      gave = p.has_read.gave;
      called = p.called;
      at_end = p.at_end;
      out = subst (λ (h : History). WritesInto o0.file o2.file [] (file_so_far s (arrivals h.found)) (kept_file s (arrivals h.found))) same (into o0.file o1.file o2.file _ _ _ p.has_read.out breaks.out);
      log = subst (λ (h : History). WritesInto o0.report o2.report [] (lines s h.found) (report_of s h.found)) same (into o0.report o1.report o2.report _ _ _ p.has_read.log breaks.log);
      counts_last = elim breaks.counts_last [
        | inl alone ↦ inl (written-on o0.report o1.report o2.report (lines s p.history.found) (lines s breaks.last.found) p.has_read.log alone ∙ ap (λ (h : History). with_more o0.report (lines s h.found)) same)
        | inr whole ↦ inr (written-on o0.file o1.file o2.file (file_so_far s (arrivals p.history.found)) (kept_file s (arrivals breaks.last.found)) p.has_read.out whole ∙ ap (λ (h : History). with_more o0.file (kept_file s (arrivals h.found))) same)
      ];
    }

pub links-few : (links : ℕ) (P : Type 0) → (P → ⊥) → (¬ (IsLinkCount links) → P) → IsLinkCount links
links-few links P not_so f = elim (cases_lt 16 links) [
  | inl many ↦ absurd (not_so (f (λ p. absurd (let hi = p.1 in omega arith))))
  | inr few ↦ elim (cases_lt links 1) [
    | inl none ↦ absurd (not_so (f (λ p. absurd (let lo = p.0 in omega arith))))
    | inr some ↦ (some, few)
  ]
]

pub reading-run : (fault : ConvertFault) → IsReadingFault fault → IsRunFault fault
reading-run Setup p = tt
reading-run NoLink p = p
reading-run LinkClosed p = p
reading-run OutOfMemory p = p
reading-run (Write stream) p = p
reading-run (ReadFault link) p = p
reading-run Endless p = p
reading-run Stopped p = p

pub read-reading : (fault : ConvertFault) → IsReadFault fault → IsReadingFault fault
read-reading Setup p = p
read-reading NoLink p = p
read-reading LinkClosed p = p
read-reading OutOfMemory p = p
read-reading (Write stream) p = p
read-reading (ReadFault link) p = p
read-reading Endless p = tt
read-reading Stopped p = p

pub frame-run : (fault : ConvertFault) → IsFrameFault fault → IsRunFault fault
frame-run Setup p = tt
frame-run NoLink p = p
frame-run LinkClosed p = p
frame-run OutOfMemory p = p
frame-run (Write stream) p = p
frame-run (ReadFault link) p = absurd p
frame-run Endless p = tt
frame-run Stopped p = p
