use Rattle.std.proofs.Common.{◌≡◌, ◌≤◌, take, length}
use Rattle.rtk_rinex.specs.MixedHeader.{codes_of}
use Rattle.rtk_compare.proofs.shared_codes.codes_of.Given as goal

abbrev pub invariant-loop-code : goal.invariant-loop-code
invariant-loop-code l = record {
  items : l.codes.items ≡ codes_of l.letter (take l.code-index l.listed);
  few : length l.codes.items ≤ l.code-index;
}
