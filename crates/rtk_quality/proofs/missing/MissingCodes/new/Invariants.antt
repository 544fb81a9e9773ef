use Rattle.std.proofs.Common.{◌≡◌, length, All}
use Rattle.rtk_quality.proofs.MissingCodeLemmas.{IsFresh}
use Rattle.rtk_quality.proofs.missing.MissingCodes.new.Given as goal

abbrev pub invariant-loop-code : goal.invariant-loop-code
invariant-loop-code l = record {
  size : length l.codes.items ≡ l._code;
  fresh : All IsFresh l.codes.items;
}
