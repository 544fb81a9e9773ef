use Rattle.std.proofs.Common.{arith, inl, refl}
use Rattle.rtk_frame.proofs.Fronts.{not_preamble, preamble_partial, preamble_whole, whole_not_partial}
use Rattle.rtk_frame.proofs.frame.start_of.Goals as goal

pub returns-then-first : goal.returns-then-first
returns-then-first c = let n = not_preamble c.args.bytes.now c.if-first.true in (omega arith, n.0, n.1)

pub returns-then-bytes-lt3 : goal.returns-then-bytes-lt3
returns-then-bytes-lt3 c = (omega arith, inl (preamble_partial c.args.bytes.now c.if-first.false (omega arith)))

pub returns-then-bytes-payload_len : goal.returns-then-bytes-payload_len
returns-then-bytes-payload_len c = (omega (arith, c.type_inv.bytes 2), inl (preamble_partial c.args.bytes.now c.if-first.false (omega arith)))

pub returns-else-bytes-payload_len : goal.returns-else-bytes-payload_len
returns-else-bytes-payload_len c = (refl, omega (arith, c.type_inv.bytes 2), omega arith, preamble_whole c.args.bytes.now _ c.if-first.false (omega arith) refl, whole_not_partial c.args.bytes.now (omega arith))
