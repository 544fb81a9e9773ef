use Rattle.std.proofs.Common.{◌≡◌, ◌*◌, length, take}
use Rattle.rtk_rinex.specs.Header.{types}
use Rattle.rtk_rinex.proofs.header_text.types_of_codes.Given as goal

abbrev pub invariant-loop-code : goal.invariant-loop-code
invariant-loop-code l = record {
  items : l.text.items ≡ types (take l.code-index l.listed);
  len : length l.text.items ≡ 12 * l.code-index;
}
