use Rattle.std.proofs.Common.{◌≡◌, ◌<◌}
use Rattle.std.specs.Prelude.{IfSome}
use Rattle.rtk_survey.specs.NextCommand.{most_told}
use Rattle.rtk_survey.specs.Steps.OtherSystems.{fields_held}
use Rattle.rtk_survey.proofs.next_command.most_told.Given as goal

abbrev pub invariant-loop-field : goal.invariant-loop-field
invariant-loop-field l = record {
  value : l.told ≡ most_told (fields_held l.station l.slot) l.field;
  bound : IfSome l.told (λ f. f < 14);
}
