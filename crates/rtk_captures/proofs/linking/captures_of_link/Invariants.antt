use Rattle.std.proofs.Common.{◌≡◌, ◌++◌, drop}
use Rattle.rtk_captures.specs.Linking.{captures_of_link}
use Rattle.rtk_captures.proofs.linking.captures_of_link.Given as goal

-- the captures so far and those among the rest are all of the link
abbrev pub invariant-loop-at : goal.invariant-loop-at
invariant-loop-at l = l.places.items ++ captures_of_link l.link (drop l.at l.ordered) (drop l.at l.numbers) ≡ captures_of_link l.link l.ordered l.numbers
