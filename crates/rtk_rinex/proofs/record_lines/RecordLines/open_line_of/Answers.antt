use Rattle.std.proofs.Common.{◌≡◌, ℕ, ◌-◌, ◌≤◌, ◌++◌, List, length, replicate, take, drop, ltb, ap, sym, subst, ◌∙◌, arith}
use Rattle.std.specs.Prelude.{max}
use Rattle.std.proofs.lemmas.Bool.{le-ltb}
use Rattle.std.proofs.lemmas.List.{take_at, drop_at, length-drop, length-take}
use Rattle.rtk_rinex.specs.Record.{no_observation}
use Rattle.rtk_rinex.specs.RecordLines.{RecordLinesView, HasOpenLine}
use Rattle.rtk_rinex.proofs.RecordLinesLemmas.{blank-later, blank-longer, longer-than, open-line}
use Rattle.rtk_rinex.proofs.record_lines.RecordLines.open_line_of.Goals as goal

pub returns-then-self-clause-open : goal.returns-then-self-clause-open
returns-then-self-clause-open c =
    let more = c.make_room.new.text.items in
    let len = c.self.inside.len in
    let now = c.blank.new.text in
    let at = max len 36 in
    let long : length now ≡ c.make_room.new.text.len = omega arith in
    let same : length more ≡ length now = omega arith in
    let whole : take c.make_room.new.text.len (now ++ drop (length now) more) ≡ now = take_at now (drop (length now) more) c.make_room.new.text.len long in
    let is : now ≡ take len more ++ replicate (length more - len) 32 = rw c.deref_mut.ensures.value at c.blank.ensures in
    let inside : len ≤ length more = omega (arith, longer-than c.self.inside.text.items more c.in_ok-make_room.ensures.ok, c.self.invariant.0.within, c.self.invariant.0.from) in
    let size : length (take len more) ≡ len = omega (arith, length-take len more) in
    let first : drop len now ≡ replicate (length now - len) 32 =
    ap (drop len) is ∙ drop_at (take len more) (replicate (length more - len) 32) len size ∙ ap (λ (n : ℕ). replicate (n - len) 32) same in
    let blank : drop at now ≡ replicate (length (drop at now)) 32 = blank-later now len at first (omega arith) ∙ ap (λ (n : ℕ). replicate n 32) (sym (length-drop at now)) in
    let new : RecordLinesView = record { text = take len now; count = c.self.inside.count; rest = drop at now; is_written = ltb len len } in
    subst (λ (t : List ℕ). HasOpenLine c.args.doppler (record { text = take len t; count = c.self.inside.count; rest = drop at t; is_written = ltb len len }) (replicate c.args.codes no_observation)) (sym whole)
    (open-line c.args.doppler new c.args.codes c.requires.few (omega (arith, length-drop at now, c.in_ok-make_room.ensures.room, c.self.invariant.0.place, c.line_room.ensures.value)) blank (le-ltb len len (omega arith)))

pub returns-else-self-clause-open : goal.returns-else-self-clause-open
returns-else-self-clause-open c =
    let i = c.self.invariant.0 in
    let text = c.self.inside.text.items in
    let more = c.make_room.new.text.items in
    let len = c.self.inside.len in
    let end = c.self.inside.end in
    let at = max len 36 in
    let first = blank-longer text more end i.blank i.within c.in_ok-make_room.ensures.ok in
    let blank : drop at more ≡ replicate (length (drop at more)) 32 = blank-later more end at first (omega arith) ∙ ap (λ (n : ℕ). replicate n 32) (sym (length-drop at more)) in
    let new : RecordLinesView = record { text = take len more; count = c.self.inside.count; rest = drop at more; is_written = ltb len end } in
    open-line c.args.doppler new c.args.codes c.requires.few (omega (arith, length-drop at more, c.in_ok-make_room.ensures.room, c.self.invariant.0.place, c.line_room.ensures.value)) blank (le-ltb len end (omega arith))
