use Rattle.std.proofs.Common.{refl}
use Rattle.rtk_commands.proofs.PassedLemmas.{left-read}
use Rattle.rtk_commands.proofs.files.ReadsSource.read.Goals as goal

pub invariant_of-self-in_default-1 : goal.invariant_of-self-in_default-1
invariant_of-self-in_default-1 g c = (refl, left-read (g.K.Before.had c.self.inside.number) _ _ c.self.inside.ended c.read.result c.read.new.buf c.self.invariant.1 c.read.ensures.bytes)
