use Rattle.std.proofs.Common.{ap, ◌∙◌, arith, rules}
use Rattle.rtk_bits.specs.Bits.{bits}
use Rattle.rtk_message.specs.Accepted.{accepts}
use Rattle.rtk_message.specs.declared.any_fault.AnyFault.TheVariants.{NoNumber}
use Rattle.rtk_message.proofs.AnyDecodedLemmas.{decodes_after, decodes_fault, clock_after}
use Rattle.rtk_message.proofs.any_decoder.AnyDecoder.read.Goals as goal

pub returns-in_default : goal.returns-in_default
returns-in_default c = rw c.keep_fault.ensures (decodes_fault c.args.accepted (bits c.args.payload.now) NoNumber (search rules))

pub returns-in-1004 : goal.returns-in-1004
returns-in-1004 c =
    rw (← c.new-reader.ensures) (decodes_after c.args.accepted c.new-reader.result c.take_u.new.self c.in-Some.number 1004 c.keep_1004.new.kept c.in-Some.ensures.bound c.in-Some.ensures.field (ap (accepts c.args.accepted) c.in-1004.is) c.in-1004.is c.keep_1004.ensures.message (clock_after c.args.accepted.obs1012 1004 c.take_u.new.self c.keep_1004.new.kept (λ t wide e. omega (arith, wide, e)) c.keep_1004.ensures.message) c.keep_1004.ensures.fault)

pub returns-in-1074 : goal.returns-in-1074
returns-in-1074 c =
    rw (← c.new-reader.ensures) (decodes_after c.args.accepted c.new-reader.result c.take_u.new.self c.in-Some.number 1074 c.keep_1074.new.kept c.in-Some.ensures.bound c.in-Some.ensures.field (ap (accepts c.args.accepted) c.in-1074.is ∙ c.if-accepted.true) c.in-1074.is c.keep_1074.ensures.message (clock_after c.args.accepted.obs1012 1074 c.take_u.new.self c.keep_1074.new.kept (λ t wide e. omega (arith, wide, e)) c.keep_1074.ensures.message) c.keep_1074.ensures.fault)

pub returns-in-1005 : goal.returns-in-1005
returns-in-1005 c =
    rw (← c.new-reader.ensures) (decodes_after c.args.accepted c.new-reader.result c.take_u.new.self c.in-Some.number 1005 c.keep_1005.new.kept c.in-Some.ensures.bound c.in-Some.ensures.field (ap (accepts c.args.accepted) c.in-1005.is) c.in-1005.is c.keep_1005.ensures.message (clock_after c.args.accepted.obs1012 1005 c.take_u.new.self c.keep_1005.new.kept (λ t wide e. omega (arith, wide, e)) c.keep_1005.ensures.message) c.keep_1005.ensures.fault)

pub returns-in-1006 : goal.returns-in-1006
returns-in-1006 c =
    rw (← c.new-reader.ensures) (decodes_after c.args.accepted c.new-reader.result c.take_u.new.self c.in-Some.number 1006 c.keep_1006.new.kept c.in-Some.ensures.bound c.in-Some.ensures.field (ap (accepts c.args.accepted) c.in-1006.is) c.in-1006.is c.keep_1006.ensures.message (clock_after c.args.accepted.obs1012 1006 c.take_u.new.self c.keep_1006.new.kept (λ t wide e. omega (arith, wide, e)) c.keep_1006.ensures.message) c.keep_1006.ensures.fault)

pub returns-in_default-number : goal.returns-in_default-number
returns-in_default-number c = rw (← c.new-reader.ensures) (c.read_other_number.ensures c.new-reader.result c.in-Some.ensures.field)
