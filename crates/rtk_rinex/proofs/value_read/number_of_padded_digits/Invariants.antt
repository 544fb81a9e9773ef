use Rattle.std.proofs.Common.{◌≡◌, ◌+◌, ◌*◌, ◌≤◌, ◌^◌, take}
use Rattle.rtk_rinex.specs.Steps.Digits.{padded_digits_from}
use Rattle.rtk_rinex.proofs.value_read.number_of_padded_digits.Given as goal

abbrev pub invariant-loop-byte : goal.invariant-loop-byte
invariant-loop-byte l = record {
  value : l.value ≡ padded_digits_from 0 (take l.byte-index l.text);
  small : 3 * l.value + 5 ≤ 5 * 10 ^ l.byte-index;
}
