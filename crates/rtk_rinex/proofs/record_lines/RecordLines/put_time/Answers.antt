use Rattle.std.proofs.Common.{◌≡◌, ℕ, ◌<◌, ◌++◌, [], length, take, drop, ltb, ap, refl, subst, ◌∙◌, arith}
use Rattle.std.specs.Prelude.{max}
use Rattle.std.proofs.lemmas.List.{take_at}
use Rattle.rtk_rinex.specs.Record.{epoch_line}
use Rattle.rtk_rinex.specs.RecordLines.{RecordLinesView}
use Rattle.rtk_rinex.specs.Steps.WrittenLines.{PutsEpochLine}
use Rattle.rtk_rinex.proofs.EpochLemmas.{length-written}
use Rattle.rtk_obs.proofs.PublicLaws.{reading_is}
use Rattle.rtk_rinex.proofs.RecordLinesLemmas.{line-put, drop-line, epoch-line-put, no-epoch-line}
use Rattle.rtk_rinex.proofs.record_lines.RecordLines.put_time.Goals as goal

pub returns-then-self-gt0 : goal.returns-then-self-gt0
returns-then-self-gt0 c =
    let i = c.self.invariant.0 in
    let len = c.self.inside.len in
    let end = c.self.inside.end in
    let count = c.self.inside.count in
    let text = c.self.inside.text.items in
    let now = c.put_epoch_line.new.text in
    let few : count < 1000 = omega arith in
    let first = length-written c.civil.result count (omega arith) (omega arith) few in
    let put = line-put text (epoch_line c.civil.result count) now len first (i.some c.if-self-gt0.true) (omega (arith, i.from, i.within)) (rw c.deref_mut.ensures.value at c.put_epoch_line.ensures) in
    let whole : take c.self.inside.text.len (now ++ drop (length now) text) ≡ now = take_at now (drop (length now) text) c.self.inside.text.len (omega (arith, put.0)) in
    let old : RecordLinesView = record { text = take len text; count = count; rest = drop (max len 36) text; is_written = ltb len end } in
    let new : RecordLinesView = record { text = take len now; count = count; rest = drop (max len 36) now; is_written = ltb len end } in
    rw whole (subst (λ (v : RecordLinesView). PutsEpochLine c.args.time v new) c.self.view_is
    (epoch-line-put c.args.time c.civil.result old new (reading_is c.args.time c.civil.result c.civil.ensures.reading) first c.if-self-gt0.true put.1 refl))

pub returns-else-self-gt0 : goal.returns-else-self-gt0
returns-else-self-gt0 c =
    let i = c.self.invariant.0 in
    let len = c.self.inside.len in
    let text = c.self.inside.text.items in
    let none : c.self.inside.count ≡ 0 = omega arith in
    let old : RecordLinesView = record { text = take len text; count = c.self.inside.count; rest = drop (max len 36) text; is_written = ltb len c.self.inside.end } in
    let empty : take len text ≡ [] = ap (λ (n : ℕ). take n text) (i.none none) in
    subst (λ (v : RecordLinesView). PutsEpochLine c.args.time v v) c.self.view_is (no-epoch-line c.args.time old none empty)

pub invariant_of-self : goal.invariant_of-self
invariant_of-self c =
    let i = c.self.invariant.0 in
    let count = c.self.inside.count in
    let text = c.self.inside.text.items in
    let now = c.put_epoch_line.new.text in
    let few : count < 1000 = omega arith in
    let first = length-written c.civil.result count (omega arith) (omega arith) few in
    let put = line-put text (epoch_line c.civil.result count) now c.self.inside.len first (i.some c.if-self-gt0.true) (omega (arith, i.from, i.within)) (rw c.deref_mut.ensures.value at c.put_epoch_line.ensures) in
    let whole : take c.self.inside.text.len (now ++ drop (length now) text) ≡ now = take_at now (drop (length now) text) c.self.inside.text.len (omega (arith, put.0)) in
    let after : drop c.self.inside.end now ≡ drop c.self.inside.end text = drop-line text (epoch_line c.civil.result count) now c.self.inside.end first (omega (arith, i.some c.if-self-gt0.true, i.from)) (rw c.deref_mut.ensures.value at c.put_epoch_line.ensures) in (
      rw whole (record {
        few = i.few;
        within = omega (arith, i.within, put.0);
        from = i.from;
        place = i.place;
        short = i.short;
        none = i.none;
        some = i.some;
        blank = rw put.0 (after ∙ i.blank);
        begun = i.begun;
        fits = λ l. omega (arith, i.fits l, put.0);
        bound = i.bound;
        most = omega (arith, i.most, put.0);
      }),
      refl,
    )
