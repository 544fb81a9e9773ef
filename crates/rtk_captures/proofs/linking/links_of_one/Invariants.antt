use Rattle.std.proofs.Common.{◌≡◌, map, take}
use Rattle.rtk_survey.specs.Surveys.{places_of}
use Rattle.rtk_captures.specs.Linking.{one_place}
use Rattle.rtk_captures.proofs.linking.links_of_one.Given as goal

abbrev pub invariant-loop-place : goal.invariant-loop-place
invariant-loop-place l = places_of l.links.items ≡ map one_place (take l.place-index l.places)
