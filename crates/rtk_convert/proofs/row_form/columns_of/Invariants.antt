use Rattle.std.proofs.Common.{◌≡◌, ℕ, ◌<◌, length}
use Rattle.rtk_convert.proofs.ListedLemmas.{PlacesTo}
use Rattle.rtk_convert.proofs.row_form.columns_of.Given as goal

abbrev pub invariant-loop-k : goal.invariant-loop-k
invariant-loop-k l = record {
  len : length l.columns ≡ 16;
  among : (place : ℕ) → place < 16 → PlacesTo l.codes l.k l.columns place;
}
