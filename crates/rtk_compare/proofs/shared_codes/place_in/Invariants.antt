use Rattle.std.proofs.Common.{◌≡◌, drop}
use Rattle.rtk_compare.specs.Codes.{place_in, place_from}
use Rattle.rtk_compare.proofs.shared_codes.place_in.Given as goal

abbrev pub invariant-loop-place : goal.invariant-loop-place
invariant-loop-place l = place_in l.code l.listed ≡ place_from l.place l.code (drop l.place l.listed)
