use Rattle.std.proofs.Common.{◌≤◌, min, length, sym, ◌∙◌, arith}
use Rattle.rtk_captures.proofs.WalkLemmas.{reach-end}
use Rattle.rtk_captures.proofs.dating.are_out_of_reach.Goals as goal

pub returns : goal.returns
returns c =
    let past : min (length c.args.captures.now) (length c.args.placed.now) ≤ c.loop-at.at = omega (arith, c.loop-at-test.false, c.min-count.ensures) in
    sym (reach-end c.args.near c.args.captures.now c.args.placed.now c.loop-at.at past) ∙ c.loop-at.invariant
