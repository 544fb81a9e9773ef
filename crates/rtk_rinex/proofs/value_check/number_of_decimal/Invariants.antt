use Rattle.std.proofs.Common.{◌≡◌, ◌+◌, ◌<◌, ◌≤◌, ◌^◌, ◌∷◌, take, get_or, decimal}
use Rattle.rtk_rinex.proofs.value_check.number_of_decimal.Given as goal

abbrev pub invariant-loop-byte : goal.invariant-loop-byte
invariant-loop-byte l = record {
  digits : get_or l.text 0 0 ∷ take l.byte-index l.others ≡ decimal l.number;
  some : 1 ≤ l.number;
  small : l.number < 10 ^ (l.byte-index + 1);
}
