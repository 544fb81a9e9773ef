use Rattle.std.proofs.Common.{◌≡◌, drop}
use Rattle.rtk_survey.proofs.system_message.pass.Given as goal

abbrev pub invariant-loop-passed : goal.invariant-loop-passed
invariant-loop-passed l = l.reader ≡ drop l._passed l.fn.reader
