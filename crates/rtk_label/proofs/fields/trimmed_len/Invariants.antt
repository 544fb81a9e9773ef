use Rattle.std.proofs.Common.{◌≡◌, ◌≤◌, length, take}
use Rattle.rtk_rinex.specs.Record.{trim_end}
use Rattle.rtk_label.proofs.fields.trimmed_len.Given as goal

abbrev pub invariant-loop-end : goal.invariant-loop-end
invariant-loop-end l = record {
  within : l.end ≤ length l.bytes;
  blanks : trim_end (take l.end l.bytes) ≡ trim_end l.bytes;
}

abbrev pub decreases-loop-end : goal.decreases-loop-end
decreases-loop-end l = l.end
