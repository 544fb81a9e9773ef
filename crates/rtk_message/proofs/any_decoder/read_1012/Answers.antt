use Rattle.std.proofs.Common.{refl}
use Rattle.rtk_message.proofs.AnyDecodedLemmas.{fault_after_1012}
use Rattle.rtk_message.proofs.any_decoder.read_1012.Goals as goal

pub returns-in-Ok-clause-message : goal.returns-in-Ok-clause-message
returns-in-Ok-clause-message c =
    let read = c.in-Ok.ensures.fields in
    record { has_number = refl; valid = read.0; begins = (c.read.new.reader, read.1.is) }

pub returns-in-Ok-clause-clock : goal.returns-in-Ok-clause-clock
returns-in-Ok-clause-clock c = λ any_day. refl

pub returns-in-Err-clause-fault : goal.returns-in-Err-clause-fault
returns-in-Err-clause-fault c = rw c.from.ensures (fault_after_1012 c.args.reader c.in-Err.fault c.in-Err.ensures.fault)
