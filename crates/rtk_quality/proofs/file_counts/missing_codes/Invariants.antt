use Rattle.std.proofs.Common.{◌≡◌, [], ℕ, length, All, Option}
use Rattle.rtk_quality.specs.Standing.{StandForCodes}
use Rattle.rtk_quality.proofs.file_counts.missing_codes.Given as goal

abbrev pub invariant-loop-satellite : goal.invariant-loop-satellite
invariant-loop-satellite l = record {
  size : length l.missing.items ≡ l._satellite;
  fresh : All (λ m. (interval : Option ℕ) → StandForCodes m.codes.items l.count interval []) l.missing.items;
}
