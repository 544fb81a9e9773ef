use Rattle.std.proofs.Common.{◌+◌, ◌-◌, ◌*◌, ◌/◌, ◌^◌, sym, arith}
use Rattle.rtk_bits.proofs.MachineWords.{and_low_mask}
use Rattle.rtk_bits.proofs.ReaderLemmas.{unsigned-field-bytes}
use Rattle.rtk_bits.proofs.reader.field_of_bytes.Goals as goal

pub returns : goal.returns
returns c =
    rw (
      and_low_mask (c.big_endian-word.result / 2 ^ (8 * ((c.args.skip + c.args.width + 7) / 8) - (c.args.skip + c.args.width))) c.args.width (omega arith),
      c.big_endian-word.ensures,
    )
    (sym (unsigned-field-bytes c.args.bytes.now ((c.args.skip + c.args.width + 7) / 8) c.args.skip c.args.width (omega arith) (omega arith)))
