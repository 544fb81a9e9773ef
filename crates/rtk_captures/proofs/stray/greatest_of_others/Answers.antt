use Rattle.std.proofs.Common.{◌≤◌, min, length, sym, ◌∙◌, arith}
use Rattle.rtk_captures.proofs.WalkLemmas.{others-end}
use Rattle.rtk_captures.proofs.stray.greatest_of_others.Goals as goal

pub returns : goal.returns
returns c =
    let past : min (length c.args.captures.now) (length c.args.placed.now) ≤ c.loop-at.at = omega (arith, c.loop-at-test.false, c.min-count.ensures) in
    sym (others-end c.loop-at.greatest c.args.captures.now c.args.placed.now c.args.until c.loop-at.at past) ∙ c.loop-at.invariant
