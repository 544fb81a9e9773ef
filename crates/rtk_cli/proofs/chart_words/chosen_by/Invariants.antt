use Rattle.std.proofs.Common.{◌≡◌, ◌<◌, ◌+◌, ℕ, false, length, get_or}
use Rattle.rtk_cli.specs.Steps.ChartWords.{is_named}
use Rattle.rtk_cli.proofs.chart_words.chosen_by.Given as goal

abbrev pub invariant-loop-place : goal.invariant-loop-place
invariant-loop-place l = record {
  size : length l.places ≡ 221;
  told : (n : ℕ) → n < l.place → get_or l.places n false ≡ is_named l.letters l.listed (n + 1);
}
