use Rattle.std.proofs.Common.{◌≡◌, ◌≢◌, ℕ, ◌<◌, ◌≤◌, List, length, AllPairs, slice_index_or}
use Rattle.rtk_obs.specs.Code.{name_of}
use Rattle.rtk_obs.specs.declared.code.Code.{Code}
use Rattle.rtk_rinex.specs.Steps.HeaderShown.{name_at, AreAllCodes}
use Rattle.rtk_rinex.proofs.header_check.read_codes.Given as goal

abbrev pub invariant-loop-i : goal.invariant-loop-i
invariant-loop-i l = record {
  all : AreAllCodes l.all;
  shown : (listed : List Code) (k : ℕ) (d : Code) → AllPairs (λ a b. a ≢ b) listed → k < length listed → k < l.i
      → ((j : ℕ) → j ≤ k → name_at j l.text ≡ name_of (slice_index_or listed j d)) → slice_index_or l.all k d ≡ slice_index_or listed k d;
}
