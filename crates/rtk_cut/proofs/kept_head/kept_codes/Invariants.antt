use Rattle.std.proofs.Common.{◌≡◌, ◌≤◌, take, length}
use Rattle.rtk_cut.specs.KeptSystems.{kept_codes}
use Rattle.rtk_cut.proofs.kept_head.kept_codes.Given as goal

abbrev pub invariant-loop-code : goal.invariant-loop-code
invariant-loop-code l = record {
  items : l.codes.items ≡ kept_codes l.kept (take l.code-index l.listed);
  few : length l.codes.items ≤ l.code-index;
}
