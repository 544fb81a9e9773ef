use Rattle.std.proofs.Common.{◌≡◌, ◌++◌, drop}
use Rattle.std.specs.Prelude.{flat_map}
use Rattle.rtk_survey.specs.Surveys.{places_of}
use Rattle.rtk_captures.specs.Linking.{last_places}
use Rattle.rtk_captures.proofs.linking.last_captures.Given as goal

-- the captures so far and those of the links that are left are those of all
abbrev pub invariant-loop-link : goal.invariant-loop-link
invariant-loop-link l = l.places.items ++ flat_map last_places (places_of (drop l.link-index l.links)) ≡ flat_map last_places (places_of l.links)
