use Rattle.std.proofs.Common.{◌≡◌, ◌++◌, drop}
use Rattle.rtk_plan.specs.KnownLines.{links_from}
use Rattle.rtk_survey.specs.Surveys.{places_of}
use Rattle.rtk_plan.proofs.known_lines.links_with_strays.Given as goal

-- the places so far and those of the links that are left are those of all
abbrev pub invariant-loop-place : goal.invariant-loop-place
invariant-loop-place l =
    l.found.items ++ links_from l.place l.strays (places_of (drop l.place l.links)) ≡ links_from 0 l.strays (places_of l.links)
