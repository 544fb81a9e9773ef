use Rattle.std.proofs.Common.{◌≡◌, ℕ, ◌≤◌, ◌+◌, ◌-◌, ◌++◌, List, length, take, drop, arith, sym, ◌∙◌, ap, subst, length-take, length-drop}
use Rattle.std.proofs.lemmas.List.{take_all}
use Rattle.std.specs.List.{refill}
use Rattle.circular_buffer.specs.Buffer.{Buffer, buffer}
use Rattle.rtk_frame.specs.Held.{RingHolds}
use Rattle.rtk_frame.specs.Steps.Scanning.{Scanned}
use Rattle.rtk_frame.proofs.Passing.{scanned_front, scanned_fill}
use Rattle.rtk_frame.proofs.PrefixLemmas.{held_on, held_more, scanned_to, drop_more}
use Rattle.rtk_frame.proofs.scanner.advance.Goals as goal

pub scan-preserved-in-Other : goal.scan-preserved-in-Other
scan-preserved-in-Other c =
    let ring : Buffer ℕ = c.drop_passed.new.ring in
    let items : List ℕ = ring.items in
    let p : ℕ = c.drop_passed.new.passed in
    let q : ℕ = c.pass_to_preamble.new.passed in
    let text : List ℕ = drop c.args.passed.now c.args.ring.now.items ++ take c.scan.used c.args.piece.now in
    let same = c.make_contiguous.ensures.value in
    let here = rw same at c.in-Other.ensures.front in
    let prefixes = rw same at c.front_at.ensures.prefixes in
    let back : refill (length items) items c.make_contiguous.result.now ≡ items = c.make_contiguous.ensures.same_len c.make_contiguous.result.now (ap length same) ∙ same in
    let stays : c.pass_to_preamble.new.ring ≡ ring = c.pass_to_preamble.ensures.ring ∙ ap (λ (xs : List ℕ). buffer xs ring.capacity) back in
    let further = rw back at c.pass_to_preamble.ensures.further in
    let others = rw back at c.pass_to_preamble.ensures.others in
    let before : Scanned text (drop p items) = subst (λ (s : List ℕ). Scanned text s) (sym c.drop_passed.ensures.same) c.scan.invariant.scanned in
    let after : Scanned text (drop q items) = scanned_to text items p q further.0 further.1 here.1 here.2 others before in
    record {
      held = held_on ring c.pass_to_preamble.new.ring p q c.drop_passed.new.prefixes.items c.front_at.new.prefixes.items stays (omega (arith, further.0)) further.1 c.drop_passed.ensures.held prefixes;
      used = c.scan.invariant.used;
      scanned = subst (λ (b : Buffer ℕ). Scanned text (drop q b.items)) (sym stays) after;
    }

pub returns-then-used-piece-clause-scanned : goal.returns-then-used-piece-clause-scanned
returns-then-used-piece-clause-scanned c =
    let items : List ℕ = c.drop_passed.new.ring.items in
    let p : ℕ = c.drop_passed.new.passed in
    let piece : List ℕ = c.args.piece.now in
    let all : List ℕ = drop c.args.passed.now c.args.ring.now.items in
    let same = c.make_contiguous.ensures.value in
    let back : refill (length items) items c.make_contiguous.result.now ≡ items = c.make_contiguous.ensures.same_len c.make_contiguous.result.now (ap length same) ∙ same in
    let j = rw back at c.bytes_to_pass-used.ensures.scanned in
    let before : Scanned (all ++ take c.scan.used piece) (drop p items) = subst (λ (s : List ℕ). Scanned (all ++ take c.scan.used piece) s) (sym c.drop_passed.ensures.same) c.scan.invariant.scanned in
    let passed : Scanned (all ++ take (c.scan.used + c.bytes_to_pass-used.result) piece) (drop p items) = scanned_front all piece (drop p items) c.scan.used c.bytes_to_pass-used.result j before in
    rw back passed

pub scan-preserved : goal.scan-preserved
scan-preserved c =
    let ring : Buffer ℕ = c.drop_passed.new.ring in
    let items : List ℕ = ring.items in
    let p : ℕ = c.drop_passed.new.passed in
    let piece : List ℕ = c.args.piece.now in
    let all : List ℕ = drop c.args.passed.now c.args.ring.now.items in
    let same = c.make_contiguous.ensures.value in
    let prefixes = rw same at c.front_at.ensures.prefixes in
    let back : refill (length items) items c.make_contiguous.result.now ≡ items = c.make_contiguous.ensures.same_len c.make_contiguous.result.now (ap length same) ∙ same in
    let j = rw back at c.bytes_to_pass-used.ensures.scanned in
    let before : Scanned (all ++ take c.scan.used piece) (drop p items) = subst (λ (s : List ℕ). Scanned (all ++ take c.scan.used piece) s) (sym c.drop_passed.ensures.same) c.scan.invariant.scanned in
    let passed : Scanned (all ++ take (c.scan.used + c.bytes_to_pass-used.result) piece) (drop p items) = scanned_front all piece (drop p items) c.scan.used c.bytes_to_pass-used.result j before in
    let v : ℕ = c.scan.used + c.bytes_to_pass-used.result in
    let more : ℕ = c.min-more.result in
    let partial = rw same at c.in-Partial.ensures.front in
    let held_now = rw back at c.len.ensures.len in
    let least = c.min-more.ensures in
    let m : v + more - v ≡ more = omega arith in
    let part : List ℕ = take more (drop v piece) in
    let filled = rw (back, m) at c.fill_from_slice.ensures.items in
    let count = rw (back, m) at c.fill_from_slice.ensures.count in
    let held = c.drop_passed.ensures.held in
    let few = c.drop_passed.ensures.few in
    let waiting = length-drop p items in
    let short : length part ≤ more = omega (arith, length-take more (drop v piece)) in
    let room : length part ≤ c.fill_from_slice.result = omega (arith, count, short, held.0, held.1, held.2, waiting, partial.0, held_now, least) in
    let now : c.fill_from_slice.new.self ≡ buffer (items ++ part) ring.capacity = filled ∙ ap (λ z. buffer (items ++ z) ring.capacity) (take_all c.fill_from_slice.result part room) in
    let still : RingHolds ring p c.front_at.new.prefixes.items = (held.0, held.1, held.2, held.3, prefixes) in
    let left : drop p c.fill_from_slice.new.self.items ≡ drop p items ++ part = ap (λ (b : Buffer ℕ). drop p b.items) now ∙ drop_more items part p held.2 in
    record {
      held = held_more ring c.fill_from_slice.new.self p c.front_at.new.prefixes.items part now few (omega (arith, short, waiting, partial.0, held_now, least)) still;
      used = omega arith;
      scanned = rw left (scanned_fill all piece (drop p items) v more passed);
    }
