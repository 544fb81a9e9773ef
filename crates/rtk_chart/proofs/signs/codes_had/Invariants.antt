use Rattle.std.proofs.Common.{◌≡◌, ◌<◌, ℕ, false, length, get_or}
use Rattle.rtk_chart.specs.Signs.{has_code}
use Rattle.rtk_chart.proofs.signs.codes_had.Given as goal

abbrev pub invariant-loop-code : goal.invariant-loop-code
invariant-loop-code l = record {
  size : length l.had ≡ 16;
  marked : (k : ℕ) → k < l.code → get_or l.had k false ≡ has_code l.bins l.place k;
}
