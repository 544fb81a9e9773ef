use Rattle.std.proofs.Common.{sym, arith}
use Rattle.rtk_frame.proofs.Remainder.{remainder_next}
use Rattle.rtk_frame.proofs.checksum.after_byte.Goals as goal

pub returns : goal.returns
returns c = λ rest. rw c.entry.ensures (sym (remainder_next c.args.state c.args.byte rest (omega arith) (omega arith)))
