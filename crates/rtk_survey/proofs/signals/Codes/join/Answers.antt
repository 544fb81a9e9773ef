use Rattle.std.proofs.Common.{◌<◌, ◌∙◌, ℕ, Bool, List, length, sym, arith}
use Rattle.std.proofs.lemmas.List.{length-set}
use Rattle.std.proofs.lemmas.List.Folds.{list_any-append}
use Rattle.rtk_survey.specs.Tracing.{gives_place}
use Rattle.rtk_survey.proofs.SignalLemmas.{joined-more, left-more}
use Rattle.rtk_survey.proofs.signals.Codes.join.Goals as goal

pub loop-place-preserved : goal.loop-place-preserved
loop-place-preserved c =
    let i = c.loop-place.invariant in
    let now : List Bool = c.loop-place.self.marks in
    let place : ℕ = c.loop-place.place in
    let within : place < length now = omega arith in
    record {
      size = length-set now place _ ∙ i.size;
      joined = joined-more c.args.self.now.marks c.args.more.now.marks now place within i.joined i.left;
      left = left-more c.args.self.now.marks now place _ i.left;
    }

pub returns : goal.returns
returns c = λ xs es more old.
    let i = c.loop-place.invariant in
    let size = i.size in
    let held = old.size in
    let many = more.size in
    record {
      size = size ∙ held;
      marks = λ n lt.
          let end : n < c.loop-place.place = omega (arith, lt, size, held, c.loop-place-test.false) in
          i.joined n end ∙ rw (more.marks n (omega (arith, lt, size, held, many)), old.marks n (omega (arith, lt, size))) (sym (list_any-append (gives_place n) xs es));
    }
