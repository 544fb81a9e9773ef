use Rattle.std.proofs.Common.{◌≡◌, ℕ, ◌+◌, ◌-◌, ◌*◌, ◌++◌, true, List, length, replicate, take, drop, ltb, ap, refl, sym, subst, ◌∙◌, arith}
use Rattle.std.specs.Prelude.{max}
use Rattle.std.specs.List.{list_any}
use Rattle.std.proofs.lemmas.Bool.{lt-ltb, le-ltb}
use Rattle.std.proofs.lemmas.List.{take_at, drop-append-le, length-append, length-take}
use Rattle.rtk_rinex.specs.Record.{code_width, is_shown}
use Rattle.rtk_rinex.specs.RecordLines.{RecordLinesView, HasOpenLine, ended}
use Rattle.rtk_rinex.specs.Steps.WrittenLines.{AddsLine, named_line}
use Rattle.rtk_rinex.proofs.WrittenLemmas.{ended-line}
use Rattle.rtk_rinex.proofs.RecordLinesLemmas.{lines-before, line-there, line-absent}
use Rattle.rtk_rinex.proofs.record_lines.RecordLines.close_named.Goals as goal

pub returns-then-self : goal.returns-then-self
returns-then-self c = λ doppler os o.
    let i = c.self.invariant.0 in
    let text = c.self.inside.text.items in
    let len = c.self.inside.len in
    let end = c.self.inside.end in
    let count = c.self.inside.count in
    let at = max len 36 in
    let r = c.end_line_at-self-inside.result in
    let now = c.end_line_at-self-inside.new.text in
    let line : List ℕ = ended c.args.name (drop at text) in
    let old : RecordLinesView = record { text = take len text; count = count; rest = drop at text; is_written = ltb len end } in
    let shown : HasOpenLine doppler old os = subst (λ (v : RecordLinesView). HasOpenLine doppler v os) (sym c.self.view_is) o in
    let has : list_any (is_shown doppler) os ≡ true = sym shown.written ∙ lt-ltb len end (omega arith) in
    let same : c.self.inside.at ≡ at = i.place in
    let is : now ≡ (take at text ++ line) ++ replicate (length text - r) 32 = rw (c.deref_mut.ensures.value, same) at c.end_line_at-self-inside.ensures.text in
    let sum : r ≡ at + length line = rw (c.deref_mut.ensures.value, same) at c.end_line_at-self-inside.ensures.len in
    let size : length (take at text) ≡ at = omega (arith, length-take at text, i.begun, i.within) in
    let both : length (take at text ++ line) ≡ r = length-append (take at text) line ∙ omega (arith, size, sum) in
    let long : length now ≡ c.self.inside.text.len = omega arith in
    let whole : take c.self.inside.text.len (now ++ drop (length now) text) ≡ now = take_at now (drop (length now) text) c.self.inside.text.len long in
    let lines : drop 36 (take r now) ≡ drop 36 (take len text) ++ named_line doppler c.args.name os =
    ap (λ (xs : List ℕ). drop 36 (take r xs)) is ∙ ap (drop 36) (take_at (take at text ++ line) (replicate (length text - r) 32) r both)
    ∙ drop-append-le 36 (take at text) line (omega (arith, size))
    ∙ ap (λ (xs : List ℕ). xs ++ line) (lines-before text len at count i.none i.some refl)
    ∙ ap (λ (xs : List ℕ). drop 36 (take len text) ++ xs) (ended-line doppler (drop at text) c.args.name os (length (drop at text) - (3 + code_width doppler * length os)) shown.columns) in
    let new : RecordLinesView = record { text = take r now; count = count + 1; rest = drop (max r 36) now; is_written = ltb r r } in
    subst (λ (t : List ℕ). AddsLine doppler c.args.name os c.args.self.now (record { text = take r t; count = count + 1; rest = drop (max r 36) t; is_written = ltb r r })) (sym whole)
    (subst (λ (v : RecordLinesView). AddsLine doppler c.args.name os v new) c.self.view_is (line-there doppler c.args.name os old new has lines refl))

pub returns-else-self : goal.returns-else-self
returns-else-self c = λ doppler os o.
    let len = c.self.inside.len in
    let end = c.self.inside.end in
    let old : RecordLinesView = record { text = take len c.self.inside.text.items; count = c.self.inside.count; rest = drop (max len 36) c.self.inside.text.items; is_written = ltb len end } in
    let shown : HasOpenLine doppler old os = subst (λ (v : RecordLinesView). HasOpenLine doppler v os) (sym c.self.view_is) o in
    line-absent doppler c.args.name os c.args.self.now (sym shown.written ∙ le-ltb len end (omega arith))
