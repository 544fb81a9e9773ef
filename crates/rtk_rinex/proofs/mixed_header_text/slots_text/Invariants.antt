use Rattle.std.proofs.Common.{◌≡◌, ◌*◌, take, length, is_some}
use Rattle.std.specs.List.{count_by}
use Rattle.rtk_rinex.specs.MixedHeader.{slots_text}
use Rattle.rtk_rinex.proofs.mixed_header_text.slots_text.Given as goal

abbrev pub invariant-loop-before : goal.invariant-loop-before
invariant-loop-before l = record {
  items : l.text.items ≡ slots_text l.channels l.before;
  len : length l.text.items ≡ 7 * count_by is_some (take l.before l.channels);
}
