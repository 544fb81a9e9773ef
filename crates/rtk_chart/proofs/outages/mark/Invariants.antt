use Rattle.std.proofs.Common.{◌≡◌, ◌<◌, ◌/◌, ℕ, false, ◌||◌, cond, ltb, length, get_or}
use Rattle.rtk_chart.proofs.GridLemmas.{in_slots}
use Rattle.rtk_chart.proofs.outages.mark.Given as goal

abbrev pub invariant-loop-bin : goal.invariant-loop-bin
invariant-loop-bin l = record {
  size : length l.outages.items ≡ length l.fn.outages.items;
  marked : (k : ℕ) → k < length l.fn.outages.items
      → get_or l.outages.items k false ≡ cond (ltb (k / 32) l.bin) (in_slots l.place l.from l.to k || get_or l.fn.outages.items k false) (get_or l.fn.outages.items k false);
}
