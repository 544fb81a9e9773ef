use Rattle.std.proofs.Common.{refl, sym, ◌∙◌, rules}
use Rattle.rtk_bits.specs.Bits.{bits}
use Rattle.rtk_message.specs.declared.any_fault.AnyFault.TheVariants.{NoNumber}
use Rattle.rtk_message.proofs.AnyDecodedLemmas.{decodes_after, decodes_fault, decodes_other}
use Rattle.rtk_message.proofs.any_decoder.decode_any.Goals as goal

pub returns-in_default : goal.returns-in_default
returns-in_default c = decodes_fault c.args.accepted (bits c.args.payload.now) NoNumber (search rules)

pub returns-then-not-accepts : goal.returns-then-not-accepts
returns-then-not-accepts c =
    rw (← c.new-reader.ensures) (decodes_other c.args.accepted c.new-reader.result c.take_u.new.self c.in-Some.number c.in-Some.ensures.bound c.in-Some.ensures.field (sym c.accepts.ensures ∙ c.if-not-accepts.true))

pub returns : goal.returns
returns c =
    rw (← c.new-reader.ensures) (decodes_after c.args.accepted c.new-reader.result c.take_u.new.self c.in-Some.number c.in-Some.number c.read_any_by_number.result c.in-Some.ensures.bound c.in-Some.ensures.field (sym c.accepts.ensures ∙ c.if-not-accepts.false) refl c.read_any_by_number.ensures.message c.read_any_by_number.ensures.clock c.read_any_by_number.ensures.fault)
