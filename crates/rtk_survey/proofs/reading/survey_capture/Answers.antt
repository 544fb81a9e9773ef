use Rattle.std.proofs.Common.{◌≡◌, ◌+◌, ◌++◌, ℕ, List, Ok, length, take, refl, sym, ap, subst, ◌∙◌, arith}
use Rattle.rtk_frame.specs.Frames.{final_frames, payloads, pending}
use Rattle.rtk_frame.specs.ScannerView.{ScannerView}
use Rattle.rtk_frame.specs.Stream.{with_more}
use Rattle.rtk_survey.specs.Counting.{shown_count}
use Rattle.rtk_survey.specs.Surveys.{HoldsMore}
use Rattle.rtk_survey.proofs.FreshLemmas.{as-many}
use Rattle.rtk_survey.proofs.ReadLemmas.{read-nothing, read-piece, read-end, count-rises, refilled, length-first}
use Rattle.rtk_survey.proofs.reading.survey_capture.Goals as goal

pub reads-init : goal.reads-init
reads-init g c = record {
  so_far = read-nothing c.args.target (g.R.Source.given c.args.reader.now) c.in-Ok.scanner.pending c.new-head.result.items c.new-contents.result (ap (λ (s : ScannerView). s.pending) c.in-Ok.ensures.start) c.new-head.ensures c.new-contents.ensures;
  is_open = ap (λ (s : ScannerView). s.ended) c.in-Ok.ensures.start;
  room = as-many c.in_ok-piece.piece.items 32768 0 (c.in_ok-piece.ensures.items_if_clones_equal (λ y same. same));
  failures = refl;
  most = omega arith;
  made = omega arith;
}

pub reads-preserved : goal.reads-preserved
reads-preserved g c =
    let i = c.reads.invariant in
    let calls = c.in-Ok-read.ensures.calls in
    let most = i.most in
    let made = i.made in
    let buf : List ℕ = c.read.new.buf in
    let pending_1 : List ℕ = c.reads.scanner.pending in
    let as_many : length buf ≡ length c.reads.piece.items = c.read.auto.buf ∙ ap (λ (xs : List ℕ). length xs) c.as_mut_slice.ensures.value in
    let full = refilled buf c.reads.piece.items c.reads.piece.len as_many c.reads.piece.ok.0 in
    let same : take c.in-Ok-read.count c.deref.result.now ≡ take c.in-Ok-read.count buf = ap (λ (xs : List ℕ). take c.in-Ok-read.count xs) (c.deref.ensures.value ∙ full) in
    record {
      so_far = read-piece c.args.target (g.R.Source.given c.args.reader.now) (g.R.Source.given c.reads.reader) (g.R.Source.given c.read.new.self)
          c.reads.scanner.pending c.take_piece.new.scanner.pending (take c.in-Ok-read.count buf) c.reads.bytes c.saturating_add-bytes.result c.reads.head.items c.add_piece.new.head.items
          c.reads.contents c.take_piece.new.contents i.so_far c.in-Ok-read.ensures.given
          (subst (λ (more : List ℕ). HoldsMore (payloads (final_frames (pending_1 ++ more))) c.reads.contents c.take_piece.new.contents) same c.in_ok-take_piece.ensures.held)
          (c.in_ok-take_piece.ensures.pending ∙ ap (λ (more : List ℕ). pending (pending_1 ++ more)) same)
          (c.saturating_add-bytes.ensures ∙ ap (λ (n : ℕ). shown_count (c.reads.bytes + n)) (sym (length-first c.in-Ok-read.count buf c.in-Ok-read.ensures.bound)))
          (c.add_piece.ensures ∙ ap (λ (more : List ℕ). take 512 (c.reads.head.items ++ more)) same);
      is_open = c.in_ok-take_piece.ensures.is_open;
      room = ap (λ (xs : List ℕ). length xs) full ∙ as_many ∙ i.room;
      failures = c.in-Ok-read.ensures.failures ∙ i.failures;
      most = omega (arith, calls, most);
      made = omega (arith, calls, made);
    }

pub returns-then-count-eq0-clause-survey : goal.returns-then-count-eq0-clause-survey
returns-then-count-eq0-clause-survey g c =
    let before = g.R.Source.given c.reads.reader in
    let buf : List ℕ = c.read.new.buf in
    read-end c.args.target (g.R.Source.given c.args.reader.now) before (g.R.Source.given c.read.new.self) c.reads.scanner.pending c.reads.bytes c.reads.head.items
    c.reads.contents c.take_rest.new.contents c.look_if_empty-look.result
    c.reads.invariant.so_far (c.in-Ok-read.ensures.given ∙ ap (λ (n : ℕ). with_more before (take n buf)) c.if-count-eq0.true) c.in_ok-take_rest.ensures
    (λ n bytes frames begins. c.look_if_empty-look.ensures n bytes frames (c.as_slice.ensures.value ∙ begins))

pub returns-in_default-read-clause-reads : goal.returns-in_default-read-clause-reads
returns-in_default-read-clause-reads g c = omega (arith, c.reads.invariant.most, c.reads-test.true, c.read.ensures.calls)

pub returns-in_default-read-clause-read_failed : goal.returns-in_default-read-clause-read_failed
returns-in_default-read-clause-read_failed g c = λ is_read.
    count-rises (g.R.Source.failures c.args.reader.now) (g.R.Source.failures c.reads.reader) (g.R.Source.failures c.read.new.self)
    c.reads.invariant.failures c.in_default-read.ensures.failures

pub returns-clause-endless : goal.returns-clause-endless
returns-clause-endless g c = λ is_endless. omega (arith, c.reads.invariant.made, c.reads-test.false, c.reads.auto._made-end)

pub returns-then-count-eq0-clause-to_the_end : goal.returns-then-count-eq0-clause-to_the_end
returns-then-count-eq0-clause-to_the_end g c =
    let all = ap (λ (xs : List ℕ). length xs) c.as_mut_slice.ensures.value in
    let room = c.reads.invariant.room in
    c.in-Ok-read.ensures.at_end (omega (arith, all, room)) (ap Ok c.if-count-eq0.true)
