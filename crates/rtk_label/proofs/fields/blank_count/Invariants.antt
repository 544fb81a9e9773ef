use Rattle.std.proofs.Common.{◌≡◌, replicate, take}
use Rattle.rtk_label.proofs.fields.blank_count.Given as goal

abbrev pub invariant-loop-k : goal.invariant-loop-k
invariant-loop-k l = take l.k l.columns ≡ replicate l.k 32
