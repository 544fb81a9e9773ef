use Rattle.std.proofs.Common.{◌≡◌, ◌<◌, ℕ, false, ◌&&◌, ◌||◌, cond, ltb, leb, length, get_or}
use Rattle.rtk_chart.proofs.grid.mark.Given as goal

abbrev pub invariant-loop-bin : goal.invariant-loop-bin
invariant-loop-bin l = record {
  size : length l.gaps.items ≡ length l.fn.gaps.items;
  marked : (c : ℕ) → c < length l.fn.gaps.items → get_or l.gaps.items c false ≡ cond (ltb c l.bin) ((leb l.from c && leb c l.to) || get_or l.fn.gaps.items c false) (get_or l.fn.gaps.items c false);
}
