use Rattle.std.proofs.Common.{◌≡◌, ℕ, List, length}
use Rattle.rtk_obs.specs.Reading.{reading_of}
use Rattle.rtk_tracking.specs.Passes.{Sighting, begins_pass}
use Rattle.rtk_quality.specs.Standing.{StandForCodes}
use Rattle.rtk_quality.proofs.MissingCodeLemmas.{CodesUpTo}
use Rattle.rtk_quality.proofs.missing.MissingCodes.note_codes.Given as goal

abbrev pub invariant-loop-place : goal.invariant-loop-place
invariant-loop-place l = record {
  size : length l.self.codes.items ≡ length l.fn.self.codes.items;
  codes : (count : ℕ) (before : List Sighting) (s : Sighting) → s.observed ≡ l.observed → l.reading ≡ reading_of s.time → l.begins ≡ begins_pass l.interval before s
      → StandForCodes l.fn.self.codes.items count l.interval before → CodesUpTo l.place l.self.codes.items count l.interval s before;
}
