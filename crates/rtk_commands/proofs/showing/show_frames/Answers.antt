use Rattle.std.proofs.Common.{◌≡◌, ◌+◌, ◌∙◌, ℕ, List, [], Option, refl, sym, subst, ap, arith, length}
use Rattle.rtk_frame.specs.FramesView.{FramesView}
use Rattle.rtk_commands.specs.ShownBySet.{IsLineBy}
use Rattle.rtk_commands.proofs.ShownLemmas.{Progress, start, stepped, lines-out, part_now, part_then, all_shown, all_counted}
use Rattle.rtk_commands.proofs.showing.show_frames.Goals as goal

pub loop-found-init : goal.loop-found-init
loop-found-init g c =
    let before : Option (List ℕ) = g.W.Sink.taken c.args.out.now in
    let text : c.new-rest.result.text ≡ c.args.capture.now = ap (λ (v : FramesView). v.text) c.new-rest.ensures in
    let from : c.new-rest.result.from ≡ 0 = ap (λ (v : FramesView). v.from) c.new-rest.ensures in
    record {
      text = text;
      within = omega (arith, from);
      few = omega (arith, from);
      shown = subst (λ (n : ℕ). Progress (IsLineBy c.args.accepted) c.args.capture.now n before before c.new-lines.result.items 0) (sym from)
          (subst (λ (lines : List ℕ). Progress (IsLineBy c.args.accepted) c.args.capture.now 0 before before lines 0) (sym c.new-lines.ensures.items)
          (start (IsLineBy c.args.accepted) c.args.capture.now before (c.frames_of_a_text.ensures.are c.args.capture.now)));
      failures = refl;
    }

-- no memory for a line: what was taken before is out
pub returns-in_default-put_payload_line-clause-part : goal.returns-in_default-put_payload_line-clause-part
returns-in_default-put_payload_line-clause-part g c =
    part_now (IsLineBy c.args.accepted) c.args.capture.now c.loop-found.rest.from c.loop-found.count c.loop-found.lines.items (g.W.Sink.taken c.args.out.now)
    (g.W.Sink.taken c.loop-found.out) c.loop-found.invariant.shown

-- one line more is pending
pub loop-found-preserved : goal.loop-found-preserved
loop-found-preserved g c =
    let same = c.loop-found.invariant.text in
    let least = rw same at c.in-Some.ensures.least in
    let within = rw same at c.in-Some.ensures.within in
    let before : Option (List ℕ) = g.W.Sink.taken c.args.out.now in
    let end : c.in-Some.found.place + length c.in-Some.found.payload.now + 6 ≡ c.next_frame.new.self.from = omega (arith, c.in-Some.ensures.from) in
    record {
      text = c.in-Some.ensures.text ∙ same;
      within = omega (arith, within, end);
      few = omega (arith, least.0, end);
      shown = subst (λ n. Progress (IsLineBy c.args.accepted) c.args.capture.now n before (g.W.Sink.taken c.loop-found.out) c.put_payload_line.new.lines.items (c.loop-found.count + 1)) end
          (stepped (IsLineBy c.args.accepted) c.args.capture.now c.loop-found.rest.from c.in-Some.found.place c.loop-found.count c.in-Some.found.payload.now
          c.loop-found.lines.items c.put_payload_line.new.lines.items before (g.W.Sink.taken c.loop-found.out)
          c.loop-found.invariant.shown least c.in-Ok.ensures);
      failures = c.loop-found.invariant.failures;
    }

-- and all of them are written
pub loop-found-preserved-in-Continue-1 : goal.loop-found-preserved-in-Continue-1
loop-found-preserved-in-Continue-1 g c =
    let same = c.loop-found.invariant.text in
    let least = rw same at c.in-Some.ensures.least in
    let within = rw same at c.in-Some.ensures.within in
    let before : Option (List ℕ) = g.W.Sink.taken c.args.out.now in
    let end : c.in-Some.found.place + length c.in-Some.found.payload.now + 6 ≡ c.next_frame.new.self.from = omega (arith, c.in-Some.ensures.from) in
    let more = stepped (IsLineBy c.args.accepted) c.args.capture.now c.loop-found.rest.from c.in-Some.found.place c.loop-found.count c.in-Some.found.payload.now
    c.loop-found.lines.items c.put_payload_line.new.lines.items before (g.W.Sink.taken c.loop-found.out)
    c.loop-found.invariant.shown least c.in-Ok.ensures in
    let after : Progress (IsLineBy c.args.accepted) c.args.capture.now c.next_frame.new.self.from before (g.W.Sink.taken c.loop-found.out) c.put_payload_line.new.lines.items (c.loop-found.count + 1) =
    subst (λ n. Progress (IsLineBy c.args.accepted) c.args.capture.now n before (g.W.Sink.taken c.loop-found.out) c.put_payload_line.new.lines.items (c.loop-found.count + 1)) end more in
    record {
      text = c.in-Some.ensures.text ∙ same;
      within = omega (arith, within, end);
      few = omega (arith, least.0, end);
      shown = subst (λ (lines : List ℕ). Progress (IsLineBy c.args.accepted) c.args.capture.now c.next_frame.new.self.from before (g.W.Sink.taken c.write_lines.new.out) lines (c.loop-found.count + 1)) (sym c.in_ok-write_lines.ensures.none)
          (lines-out (IsLineBy c.args.accepted) c.args.capture.now c.next_frame.new.self.from (c.loop-found.count + 1) c.put_payload_line.new.lines.items before (g.W.Sink.taken c.loop-found.out) (g.W.Sink.taken c.write_lines.new.out) after c.in_ok-write_lines.ensures.taken);
      failures = c.in_ok-write_lines.ensures.no_fault ∙ c.loop-found.invariant.failures;
    }

-- or some of them
pub returns-in_err-write_lines-clause-part : goal.returns-in_err-write_lines-clause-part
returns-in_err-write_lines-clause-part g c =
    let least = rw c.loop-found.invariant.text at c.in-Some.ensures.least in
    let before : Option (List ℕ) = g.W.Sink.taken c.args.out.now in
    let more = stepped (IsLineBy c.args.accepted) c.args.capture.now c.loop-found.rest.from c.in-Some.found.place c.loop-found.count c.in-Some.found.payload.now
    c.loop-found.lines.items c.put_payload_line.new.lines.items before (g.W.Sink.taken c.loop-found.out)
    c.loop-found.invariant.shown least c.in-Ok.ensures in
    part_then (IsLineBy c.args.accepted) c.args.capture.now (c.in-Some.found.place + length c.in-Some.found.payload.now + 6) (c.loop-found.count + 1)
    c.put_payload_line.new.lines.items before (g.W.Sink.taken c.loop-found.out) (g.W.Sink.taken c.write_lines.new.out) more c.in_err-write_lines.ensures.part

-- of the last lines some are written
pub returns-in_err-write_lines-2-clause-part : goal.returns-in_err-write_lines-2-clause-part
returns-in_err-write_lines-2-clause-part g c =
    part_then (IsLineBy c.args.accepted) c.args.capture.now c.loop-found.rest.from c.loop-found.count c.loop-found.lines.items (g.W.Sink.taken c.args.out.now)
    (g.W.Sink.taken c.loop-found.out) (g.W.Sink.taken c.write_lines-2.new.out) c.loop-found.invariant.shown c.in_err-write_lines-2.ensures.part

-- or all
pub returns-clause-shown : goal.returns-clause-shown
returns-clause-shown g c =
    let before : Option (List ℕ) = g.W.Sink.taken c.args.out.now in
    all_shown (IsLineBy c.args.accepted) c.args.capture.now c.loop-found.rest.from c.loop-found.count before (g.W.Sink.taken c.write_lines-2.new.out)
    (lines-out (IsLineBy c.args.accepted) c.args.capture.now c.loop-found.rest.from c.loop-found.count c.loop-found.lines.items before (g.W.Sink.taken c.loop-found.out)
    (g.W.Sink.taken c.write_lines-2.new.out) c.loop-found.invariant.shown c.in_ok-write_lines-2.ensures.taken) (rw c.loop-found.invariant.text at c.in_default.ensures.least)

pub returns-clause-count : goal.returns-clause-count
returns-clause-count g c =
    all_counted (IsLineBy c.args.accepted) c.args.capture.now c.loop-found.rest.from c.loop-found.count c.loop-found.lines.items (g.W.Sink.taken c.args.out.now)
    (g.W.Sink.taken c.loop-found.out) c.loop-found.invariant.shown (rw c.loop-found.invariant.text at c.in_default.ensures.least)

pub returns-clause-part : goal.returns-clause-part
returns-clause-part g c =
    let before : Option (List ℕ) = g.W.Sink.taken c.args.out.now in
    part_now (IsLineBy c.args.accepted) c.args.capture.now c.loop-found.rest.from c.loop-found.count [] before (g.W.Sink.taken c.write_lines-2.new.out)
    (lines-out (IsLineBy c.args.accepted) c.args.capture.now c.loop-found.rest.from c.loop-found.count c.loop-found.lines.items before (g.W.Sink.taken c.loop-found.out)
    (g.W.Sink.taken c.write_lines-2.new.out) c.loop-found.invariant.shown c.in_ok-write_lines-2.ensures.taken)
