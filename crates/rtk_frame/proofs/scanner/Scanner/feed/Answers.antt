use Rattle.std.proofs.Common.{◌≡◌, ◌≤◌, ◌+◌, ℕ, List, ◌++◌, length, take, drop, arith, length-append, length-take, length-drop, ◌-◌, refl, sym, ◌∙◌, ap}
use Rattle.std.proofs.lemmas.List.{take_all, drop-drop}
use Rattle.rtk_frame.specs.Frame.{payload_of, payload_length}
use Rattle.circular_buffer.specs.Buffer.{Buffer}
use Rattle.rtk_frame.specs.ScannerView.{ScannerView}
use Rattle.rtk_frame.proofs.Fronts.{frame_is_whole}
use Rattle.rtk_frame.proofs.PrefixLemmas.{held_on}
use Rattle.rtk_frame.proofs.Passing.{scanned_waits, scanned_found, scanned_length}
use Rattle.rtk_frame.proofs.scanner.Scanner.feed.Goals as goal

pub returns-in-None : goal.returns-in-None
returns-in-None c =
    let view = c.self.view_is in
    let found = rw c.in-None.is at c.advance-scan.ensures.found in
    let h : drop c.self.inside.passed c.self.inside.ring.items ≡ c.args.self.now.pending = ap (λ (s : ScannerView). s.pending) view in
    let all : take c.advance-scan.result.used c.args.piece.now ≡ c.args.piece.now = take_all c.advance-scan.result.used c.args.piece.now (omega arith) in
    let scanned = rw (h, all) at c.advance-scan.ensures.scanned in
    let waits = scanned_waits (c.args.self.now.pending ++ c.args.piece.now) (drop c.advance-scan.new.passed c.advance-scan.new.ring.items) scanned found.1 in
    ((refl, λ _. tt, (ap (λ (s : ScannerView). s.ended) view ∙ c.requires, omega (arith, c.advance-scan.ensures.held.3, length-drop c.advance-scan.new.passed c.advance-scan.new.ring.items), (found.0, waits.0, sym waits.1))), record { used = c.advance-scan.ensures.used; after = tt })

pub returns-in-Some : goal.returns-in-Some
returns-in-Some c =
    let view = c.self.view_is in
    let found = rw c.in-Some.is at c.advance-scan.ensures.found in
    let h : drop c.self.inside.passed c.self.inside.ring.items ≡ c.args.self.now.pending = ap (λ (s : ScannerView). s.pending) view in
    let all : List ℕ = c.advance-scan.new.ring.items in
    let p : ℕ = c.advance-scan.new.passed in
    let items : List ℕ = drop p all in
    let held = c.advance-scan.ensures.held in
    let waiting = length-drop p all in
    let scanned = rw h at c.advance-scan.ensures.scanned in
    let first = scanned_found (c.args.self.now.pending ++ take c.advance-scan.result.used c.args.piece.now) items scanned found.0 in
    let size : p + 3 + c.in-Some.payload_len - (p + 3) ≡ payload_length items = omega (arith, found.1) in
    let taken : take (p + 3 + c.in-Some.payload_len - (p + 3)) (drop (p + 3) c.all_bytes-bytes.result.now) ≡ payload_of items = (λ j. take (size j) (drop (p + 3) (c.all_bytes-bytes.ensures.value j))) ∙ ap (take (payload_length items)) (sym (drop-drop 3 p all)) in
    let left : drop (p + (c.in-Some.payload_len + 6)) c.all_bytes-bytes.follows.lender-at-none.items ≡ drop (payload_length items + 6) items = (λ j. drop (p + (found.1 j + 6)) (c.all_bytes-bytes.follows.holds-at-none j).items) ∙ sym (drop-drop (payload_length items + 6) p all) in
    let whole = frame_is_whole items found.0 in
    let gone = length-drop (payload_length items + 6) items in
    let within : length (drop (p + (c.in-Some.payload_len + 6)) c.all_bytes-bytes.follows.lender-at-none.items) ≤ 1029 = omega (arith, ap length left, gone, held.3, waiting) in
    let less : length (drop (p + (c.in-Some.payload_len + 6)) c.all_bytes-bytes.follows.lender-at-none.items) + (length c.args.piece.now - c.advance-scan.result.used) + 6 ≤ length c.args.self.now.pending + length c.args.piece.now =
    omega (arith, ap length left, gone, whole, scanned_length _ _ scanned, length-append c.args.self.now.pending (take c.advance-scan.result.used c.args.piece.now), length-take c.advance-scan.result.used c.args.piece.now, c.advance-scan.ensures.used) in
    let both : length (take (p + 3 + c.in-Some.payload_len - (p + 3)) (drop (p + 3) c.all_bytes-bytes.result.now)) + 6 + length (drop (p + (c.in-Some.payload_len + 6)) c.all_bytes-bytes.follows.lender-at-none.items) ≤ 1029 =
    omega (arith, length-take (p + 3 + c.in-Some.payload_len - (p + 3)) (drop (p + 3) c.all_bytes-bytes.result.now), found.1, ap length left, gone, whole, held.3, waiting) in
    ((refl, λ _. tt, (ap (λ (s : ScannerView). s.ended) view ∙ c.requires, within, ((first.0, first.1, first.2, first.3 ∙ sym taken, left ∙ first.4), less, both))), record { used = c.advance-scan.ensures.used; after = tt })

pub slice_bounds-self-end : goal.slice_bounds-self-end
slice_bounds-self-end c =
    let found = rw c.in-Some.is at c.advance-scan.ensures.found in
    let all : List ℕ = c.advance-scan.new.ring.items in
    let p : ℕ = c.advance-scan.new.passed in
    let within : p + 3 + c.in-Some.payload_len ≤ length c.all_bytes-bytes.result.now = omega (arith, found.1, frame_is_whole (drop p all) found.0, length-drop p all, ap length c.all_bytes-bytes.ensures.value) in
    within

pub invariant_of-self-in-Some : goal.invariant_of-self-in-Some
invariant_of-self-in-Some c =
    let found = rw c.in-Some.is at c.advance-scan.ensures.found in
    let ring : Buffer ℕ = c.advance-scan.new.ring in
    let p : ℕ = c.advance-scan.new.passed in
    let whole = frame_is_whole (drop p ring.items) found.0 in
    let end : p + (c.in-Some.payload_len + 6) ≤ length ring.items = omega (arith, found.1, whole, length-drop p ring.items) in
    let held = c.advance-scan.ensures.held in
    (refl, held_on ring c.all_bytes-bytes.follows.lender-at-none p (p + (c.in-Some.payload_len + 6)) c.advance-scan.new.prefixes.items c.advance-scan.new.prefixes.items c.all_bytes-bytes.follows.holds-at-none (omega arith) end held held.4)
