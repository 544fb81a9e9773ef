use Rattle.std.proofs.Common.{◌≡◌, ◌+◌, ◌-◌, ℕ, List, length, get_or, ap, ◌∙◌, arith, get_or-drop}
use Rattle.rtk_frame.proofs.NextFrame.{rest_of}
use Rattle.rtk_frame.proofs.frame.next_preamble.Goals as goal

pub returns-clause-within : goal.returns-clause-within
returns-clause-within c = (omega arith, omega (arith, c.before_preamble.ensures.within, ap length (rest_of c.args.bytes.now c.args.from)))

pub returns-clause-none : goal.returns-clause-none
returns-clause-none c = λ i l m e.
    let b : List ℕ = c.args.bytes.now in
    let n : ℕ = c.args.from in
    let none = rw (rest_of b n) at c.before_preamble.ensures.none in
    let k : n + (i - n) ≡ i = omega arith in
    none (i - n) (omega arith) (get_or-drop n b (i - n) 0 ∙ ap (λ j. get_or b j 0) k ∙ e)
