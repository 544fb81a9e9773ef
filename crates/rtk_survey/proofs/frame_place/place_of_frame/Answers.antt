use Rattle.std.proofs.Common.{◌≡◌, ◌-◌, ◌++◌, ℕ, List, length, take, refl, ap, subst, ◌∙◌, arith}
use Rattle.rtk_frame.specs.ScannerView.{ScannerView}
use Rattle.rtk_frame.specs.Stream.{with_more}
use Rattle.rtk_frame.specs.Frames.{final_frames, shifted}
use Rattle.std.specs.Prelude.{map, Some}
use Rattle.rtk_survey.specs.FramePlaces.{place_after}
use Rattle.rtk_survey.specs.Steps.Looking.{LooksThrough}
use Rattle.rtk_survey.proofs.FramePlaceLemmas.{looked-nothing, looked-piece, looked-found, looked-end, pending_shorter}
use Rattle.rtk_survey.proofs.FreshLemmas.{as-many}
use Rattle.rtk_survey.proofs.ReadLemmas.{count-rises, refilled, length-first}
use Rattle.rtk_survey.proofs.frame_place.place_of_frame.Goals as goal

pub reads-init : goal.reads-init
reads-init g c =
    let none = ap (λ (s : ScannerView). length s.pending) c.in-Ok.ensures.start in
    record {
      so_far = looked-nothing (g.R.Source.given c.args.reader.now) c.args.before c.in-Ok.scanner.pending (ap (λ (s : ScannerView). s.pending) c.in-Ok.ensures.start);
      is_open = ap (λ (s : ScannerView). s.ended) c.in-Ok.ensures.start;
      room = as-many c.in_ok-piece.piece.items 32768 0 (c.in_ok-piece.ensures.items_if_clones_equal (λ y same. same));
      fed = omega arith;
      waits = omega (arith, none);
      failures = refl;
      most = omega arith;
      made = omega arith;
    }

pub returns-in_default-read-clause-read_failed : goal.returns-in_default-read-clause-read_failed
returns-in_default-read-clause-read_failed g c = λ is_read.
    count-rises (g.R.Source.failures c.args.reader.now) (g.R.Source.failures c.reads.reader) (g.R.Source.failures c.read.new.self)
    c.reads.invariant.failures c.in_default-read.ensures.failures

pub returns-then-count-eq0-clause-place : goal.returns-then-count-eq0-clause-place
returns-then-count-eq0-clause-place g c =
    let before = g.R.Source.given c.reads.reader in
    let buf : List ℕ = c.read.new.buf in
    let found = looked-end (g.R.Source.given c.args.reader.now) before (g.R.Source.given c.read.new.self) c.args.before c.reads.looking.before c.reads.looking.fed c.take_rest.result
    c.reads.scanner.pending c.reads.invariant.so_far (c.in-Ok-read.ensures.given ∙ ap (λ (n : ℕ). with_more before (take n buf)) c.if-count-eq0.true) c.take_rest.ensures in
    (found.0, found.1, c.shown_place.ensures ∙ found.2)

pub returns-in-Some-clause-place : goal.returns-in-Some-clause-place
returns-in-Some-clause-place g c =
    let buf : List ℕ = c.read.new.buf in
    let as_many : length buf ≡ length c.reads.piece.items = c.read.auto.buf ∙ ap (λ (xs : List ℕ). length xs) c.as_mut_slice.ensures.value in
    let full = refilled buf c.reads.piece.items c.reads.piece.len as_many c.reads.piece.ok.0 in
    let same : take c.in-Ok-read.count c.deref.result.now ≡ take c.in-Ok-read.count buf = ap (λ (xs : List ℕ). take c.in-Ok-read.count xs) (c.deref.ensures.value ∙ full) in
    let waiting : List ℕ = c.reads.scanner.pending in
    let place = subst (λ (more : List ℕ). place_after c.reads.looking.before (map (shifted (c.reads.looking.fed - length waiting)) (final_frames (waiting ++ more))) ≡ Some c.in-Some.place) same c.in-Some.ensures.found in
    let found = looked-found (g.R.Source.given c.args.reader.now) (g.R.Source.given c.reads.reader) (g.R.Source.given c.read.new.self) c.args.before c.reads.looking.before c.reads.looking.fed
    c.in-Some.place waiting (take c.in-Ok-read.count buf) c.reads.invariant.so_far c.in-Ok-read.ensures.given place in
    (found.0, found.1, c.shown_place-in-Some.ensures ∙ found.2)

pub reads-preserved : goal.reads-preserved
reads-preserved g c =
    let i = c.reads.invariant in
    let calls = c.in-Ok-read.ensures.calls in
    let most = i.most in
    let made = i.made in
    let buf : List ℕ = c.read.new.buf in
    let waiting : List ℕ = c.reads.scanner.pending in
    let waits : List ℕ = c.take_piece.new.scanner.pending in
    let as_many : length buf ≡ length c.reads.piece.items = c.read.auto.buf ∙ ap (λ (xs : List ℕ). length xs) c.as_mut_slice.ensures.value in
    let full = refilled buf c.reads.piece.items c.reads.piece.len as_many c.reads.piece.ok.0 in
    let same : take c.in-Ok-read.count c.deref.result.now ≡ take c.in-Ok-read.count buf = ap (λ (xs : List ℕ). take c.in-Ok-read.count xs) (c.deref.ensures.value ∙ full) in
    let through = subst (λ (more : List ℕ). LooksThrough c.reads.looking waiting more c.take_piece.new.self waits) same (rw c.in_default-take_piece.is at c.take_piece.ensures.none) in
    let so_far = looked-piece (g.R.Source.given c.args.reader.now) (g.R.Source.given c.reads.reader) (g.R.Source.given c.read.new.self) c.args.before c.reads.looking c.take_piece.new.self
    waiting waits (take c.in-Ok-read.count buf) i.so_far c.in-Ok-read.ensures.given through in
    let few = length-first c.in-Ok-read.count buf c.in-Ok-read.ensures.bound in
    let bound = c.in-Ok-read.ensures.bound in
    let room = i.room in
    let fed = i.fed in
    let more = through.fed in
    let size = so_far.size in
    let shorter = pending_shorter so_far.bytes in
    let left = ap (λ (xs : List ℕ). length xs) so_far.waits in
    record {
      so_far = so_far;
      is_open = c.take_piece.ensures.is_open;
      room = ap (λ (xs : List ℕ). length xs) full ∙ as_many ∙ i.room;
      fed = omega (arith, fed, more, few, bound, as_many, room);
      waits = omega (arith, size, shorter, left);
      failures = c.in-Ok-read.ensures.failures ∙ i.failures;
      most = omega (arith, calls, most);
      made = omega (arith, calls, made);
    }
