use Rattle.std.proofs.Common.{arith}
use Rattle.std.proofs.lemmas.Grind.{common_steps}
use Rattle.rtk_frame.proofs.StreamLemmas.{take-front}
use Rattle.rtk_frame.proofs.scanner.copy_rest.Goals as goal

pub returns : goal.returns
returns c = grind (arith, common_steps, take-front)
