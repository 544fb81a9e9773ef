use Rattle.std.proofs.Common.{◌≡◌, ◌++◌, drop}
use Rattle.rtk_plan.specs.LinkPlaces.{places_among_links}
use Rattle.rtk_plan.proofs.link_places.places_among_links.Given as goal

-- the captures so far and those that are left are all
abbrev pub invariant-loop-at : goal.invariant-loop-at
invariant-loop-at l =
    l.all.items ++ places_among_links l.way l.placed l.at (drop l.at l.surveys) ≡ places_among_links l.way l.placed 0 l.surveys
