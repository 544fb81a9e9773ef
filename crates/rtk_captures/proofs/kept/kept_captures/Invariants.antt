use Rattle.std.proofs.Common.{◌≡◌, ◌++◌, drop}
use Rattle.rtk_captures.specs.Kept.{is_heard, places_from}
use Rattle.rtk_captures.proofs.kept.kept_captures.Given as goal

-- the places so far and those of the captures that are left are those of all
abbrev pub invariant-loop-place : goal.invariant-loop-place
invariant-loop-place l =
    l.places.items ++ places_from l.place is_heard (drop l.place l.captures) ≡ places_from 0 is_heard l.captures
