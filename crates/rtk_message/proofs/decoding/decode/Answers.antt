use Rattle.std.proofs.Common.{refl, rules}
use Rattle.rtk_bits.specs.Bits.{bits}
use Rattle.rtk_message.specs.declared.fault.DecodeFault.TheVariants.{NoNumber}
use Rattle.rtk_message.proofs.DecodedLemmas.{decodes_after, decodes_fault}
use Rattle.rtk_message.proofs.decoding.decode.Goals as goal

pub returns : goal.returns
returns c =
    rw (← c.new-reader.ensures) (decodes_after c.new-reader.result c.take_u.new.self c.in-Some.number c.in-Some.number c.read_by_number.result c.in-Some.ensures.bound c.in-Some.ensures.field refl c.read_by_number.ensures.message c.read_by_number.ensures.fault)

pub returns-in_default : goal.returns-in_default
returns-in_default c = decodes_fault (bits c.args.payload.now) NoNumber (search rules)
