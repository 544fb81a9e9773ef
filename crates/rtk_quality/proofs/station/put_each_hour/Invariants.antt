use Rattle.std.proofs.Common.{◌≡◌, ◌++◌, take}
use Rattle.std.specs.Prelude.{flat_map}
use Rattle.rtk_quality.specs.Entries.{hour_entry}
use Rattle.rtk_quality.proofs.station.put_each_hour.Given as goal

abbrev pub invariant-loop-hour : goal.invariant-loop-hour
invariant-loop-hour l = l.text.items ≡ l.fn.text.items ++ flat_map (hour_entry l.form l.codes) (take l.hour-index l.hours)
