use Rattle.std.proofs.Common.{◌≡◌}
use Rattle.rtk_convert.specs.ReportText.{slot_names}
use Rattle.rtk_convert.specs.Slots.{has_slot}
use Rattle.rtk_convert.proofs.report.slot_names.Given as goal

abbrev pub invariant-loop-before : goal.invariant-loop-before
invariant-loop-before l = l.names.items ≡ slot_names (has_slot l.slots) l.before
