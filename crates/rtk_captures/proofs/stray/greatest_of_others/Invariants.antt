use Rattle.std.proofs.Common.{◌≡◌, None, drop}
use Rattle.rtk_captures.specs.Stray.{greatest_of_others}
use Rattle.rtk_captures.proofs.stray.greatest_of_others.Given as goal

abbrev pub invariant-loop-at : goal.invariant-loop-at
invariant-loop-at l =
    greatest_of_others l.greatest (drop l.at l.captures) (drop l.at l.placed) l.until ≡ greatest_of_others None l.captures l.placed l.until
