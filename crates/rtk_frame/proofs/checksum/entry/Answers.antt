use Rattle.std.proofs.Common.{arith}
use Rattle.rtk_frame.proofs.Blocks.{word_near, word_far}
use Rattle.rtk_frame.proofs.checksum.entry.Goals as goal

pub returns-then-place-lt2048 : goal.returns-then-place-lt2048
returns-then-place-lt2048 c = word_near c.args.zeros c.args.byte (omega arith)

pub returns-else-place-lt2048 : goal.returns-else-place-lt2048
returns-else-place-lt2048 c = word_far c.args.zeros c.args.byte (omega arith)
