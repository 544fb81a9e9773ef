use Rattle.std.proofs.Common.{◌+◌, ◌-◌, ◌*◌, ◌/◌, ◌%◌, ◌^◌, bit_or, arith}
use Rattle.rtk_bits.proofs.WriterLemmas.{last_bytes, whole_lt, put_bits}
use Rattle.rtk_bits.proofs.writer.BitWriter.put_u.Goals as goal

pub overflow_cast-whole-2 : goal.overflow_cast-whole-2
overflow_cast-whole-2 c =
    omega (arith, whole_lt c.self.inside.tail_width c.self.inside.tail c.args.width c.args.value c.self.invariant.0 c.self.invariant.1 c.requires.width.1 c.requires.value)

pub returns-clause-put : goal.returns-clause-put
returns-clause-put c =
    rw (
      c.in_ok-extend_from_slice.ensures.items,
      last_bytes (8 - (c.self.inside.tail_width + c.args.width) / 8) (bit_or (c.self.inside.tail * 2 ^ c.args.width % 2 ^ 128) c.args.value / 2 ^ ((c.self.inside.tail_width + c.args.width) % 8)) c.to_be_bytes.result c.to_be_bytes.ensures,
      c.in_ok-reserve.ensures.items,
      ← c.self.view_is,
    )
    (put_bits c.self.inside.tail_width c.self.inside.tail c.args.width c.args.value c.self.invariant.0 c.self.invariant.1 c.requires.width.1 c.requires.value c.self.inside.bytes.items)
