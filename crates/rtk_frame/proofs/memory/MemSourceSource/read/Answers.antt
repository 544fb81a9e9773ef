use Rattle.std.proofs.Common.{◌≡◌, ◌+◌, ◌++◌, None, Some, take, drop, replicate, arith, ap, sym, ◌∙◌}
use Rattle.std.proofs.lemmas.Grind.{common_steps}
use Rattle.rtk_frame.proofs.StreamLemmas.{given-bytes, given-zeros, take-front, take-zeros}
use Rattle.rtk_frame.proofs.memory.MemSourceSource.read.Goals as goal
use Rattle.rtk_frame.proofs.memory.MemSourceSource.read.Goals.{in-Failure, in-Zeros}

pub returns-then-left-gt0-clause-given : goal.returns-then-left-gt0-clause-given
returns-then-left-gt0-clause-given c =
    let none : c.self.inside.zeros ≡ 0 = grind (arith, c.self.invariant.1, c.if-left-gt0.true) in
    let copied : take c.min-count.result (c.copy_from_slice.new.self ++ drop c.min-count.result c.args.buf.now) ≡ take c.min-count.result (drop c.self.inside.at c.self.inside.bytes.items) = grind (arith, common_steps, take-front) in
    rw (← ap (λ s. s.given) c.self.view_is, copied) (given-bytes _ _ _ _ none)

pub returns-clause-given : goal.returns-clause-given
returns-clause-given c =
    let filled : take c.min-room.result (c.fill.new.self ++ drop c.min-room.result c.args.buf.now) ≡ replicate c.min-room.result 0 = rw (c.fill.ensures.after (λ y e. e)) (take-zeros _ _ _ (grind (arith, c.min-room.ensures))) in
    let more : c.in-Some.zeros ≡ c.self.inside.zeros + c.min-room.result = elim c.match-self.branch [
      | in-Failure w ↦ let no : None ≡ Some c.in-Some.zeros = sym w.zeros-is ∙ c.in-Some.is in absurd cc
      | in-Zeros w ↦ (rw (sym w.zeros-is ∙ c.in-Some.is) at w.checked_add-zeros.ensures).1
    ] in
    rw (← ap (λ s. s.given) c.self.view_is, filled, more) (given-zeros _ _ _)
