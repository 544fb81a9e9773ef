use Rattle.std.proofs.Common.{◌≡◌, ◌-◌, false}
use Rattle.std.specs.List.{list_any, range_with_len}
use Rattle.rtk_chart.specs.TextPicture.{has_label}
use Rattle.rtk_chart.proofs.text_time.is_covered.Given as goal

abbrev pub invariant-loop-before : goal.invariant-loop-before
invariant-loop-before l =
    list_any (has_label l.scale l.width l.step) (range_with_len (l.bin - l.longest) (l.before - (l.bin - l.longest))) ≡ false
