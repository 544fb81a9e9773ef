use Rattle.std.proofs.Common.{◌≡◌, map}
use Rattle.std.specs.Prelude.{filter}
use Rattle.std.specs.List.{range_with_len}
use Rattle.rtk_survey.specs.Surveys.{places_of}
use Rattle.rtk_captures.specs.Linking.{captures_of_link, is_nonempty}
use Rattle.rtk_captures.proofs.linking.joined_links.Given as goal

-- the links so far
abbrev pub invariant-loop-link : goal.invariant-loop-link
invariant-loop-link l = places_of l.links.items ≡ filter is_nonempty (map (λ link. captures_of_link link l.ordered l.numbers.items) (range_with_len 0 l.link))
