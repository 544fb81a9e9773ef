use Rattle.std.proofs.Common.{[], ◌++◌, take}
use Rattle.rtk_survey.specs.Contents.{HasCodes}
use Rattle.rtk_survey.proofs.signals.Codes.of.Given as goal

abbrev pub invariant-loop-entry : goal.invariant-loop-entry
invariant-loop-entry l = HasCodes l.codes (take l.entry-index l.entries ++ [])
