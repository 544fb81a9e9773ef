use Rattle.std.proofs.Common.{◌≡◌, ◌++◌, take}
use Rattle.std.specs.Prelude.{flat_map}
use Rattle.rtk_quality.specs.Entries.{pass_entry}
use Rattle.rtk_quality.specs.Standing.{ended_of}
use Rattle.rtk_quality.proofs.sections.put_ended.Given as goal

abbrev pub invariant-loop-one : goal.invariant-loop-one
invariant-loop-one l = l.text.items ≡ l.fn.text.items ++ flat_map (pass_entry l.form l.satellite) (ended_of l.satellite (take l.one-index l.ended))
