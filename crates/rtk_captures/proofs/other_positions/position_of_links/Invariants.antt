use Rattle.std.proofs.Common.{◌≡◌, drop}
use Rattle.rtk_captures.specs.OtherPositions.{position_of_links}
use Rattle.rtk_survey.specs.Surveys.{places_of}
use Rattle.rtk_captures.proofs.other_positions.position_of_links.Given as goal

abbrev pub invariant-loop-link : goal.invariant-loop-link
invariant-loop-link l = position_of_links l.captures (places_of (drop l.link-index l.links)) ≡ position_of_links l.captures (places_of l.links)
