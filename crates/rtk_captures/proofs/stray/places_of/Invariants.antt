use Rattle.std.proofs.Common.{◌≡◌, ◌++◌, drop}
use Rattle.rtk_captures.specs.Stray.{epoch_places}
use Rattle.rtk_captures.proofs.stray.places_of.Given as goal

-- the places so far and those of the captures that are left are those of all
abbrev pub invariant-loop-place : goal.invariant-loop-place
invariant-loop-place l = l.places.items ++ epoch_places l.place l.epoch (drop l.place l.placed) ≡ epoch_places 0 l.epoch l.placed
