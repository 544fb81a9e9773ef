use Rattle.std.proofs.Common.{◌≡◌, ℕ, ◌<◌, List, length, drop, arith, sym, ◌∙◌, ap, subst, length-drop}
use Rattle.std.specs.List.{refill}
use Rattle.circular_buffer.specs.Buffer.{Buffer, buffer}
use Rattle.rtk_frame.specs.Steps.Scanning.{Searched}
use Rattle.rtk_frame.proofs.NextFrame.{front_by}
use Rattle.rtk_frame.proofs.PrefixLemmas.{held_on, searched_to}
use Rattle.rtk_frame.proofs.scanner.advance_ended.Goals as goal

pub loop-passed-preserved : goal.loop-passed-preserved
loop-passed-preserved c =
    let ring : Buffer ℕ = c.drop_passed.new.ring in
    let items : List ℕ = ring.items in
    let p : ℕ = c.drop_passed.new.passed in
    let q : ℕ = c.pass_to_preamble.new.passed in
    let text : List ℕ = drop c.args.passed.now c.args.ring.now.items in
    let same = c.make_contiguous.ensures.value in
    let prefixes = rw same at c.front_at.ensures.prefixes in
    let back : refill (length items) items c.make_contiguous.result.now ≡ items = c.make_contiguous.ensures.same_len c.make_contiguous.result.now (ap length same) ∙ same in
    let stays : c.pass_to_preamble.new.ring ≡ ring = c.pass_to_preamble.ensures.ring ∙ ap (λ (xs : List ℕ). buffer xs ring.capacity) back in
    let further = rw back at c.pass_to_preamble.ensures.further in
    let others = rw back at c.pass_to_preamble.ensures.others in
    let some : 0 < length (drop p items) = omega (arith, further.0, further.1, length-drop p items) in
    let none = front_by (drop p items) c.front_at.result some (rw same at c.front_at.ensures.front) c.in_default.not-Whole in
    let before : Searched text (drop p items) = subst (λ (s : List ℕ). Searched text s) (sym c.drop_passed.ensures.same) c.loop-passed.invariant.searched in
    record {
      held = held_on ring c.pass_to_preamble.new.ring p q c.drop_passed.new.prefixes.items c.front_at.new.prefixes.items stays (omega (arith, further.0)) further.1 c.drop_passed.ensures.held prefixes;
      searched = subst (λ (b : Buffer ℕ). Searched text (drop q b.items)) (sym stays) (searched_to text items p q further.0 further.1 none others before);
    }
