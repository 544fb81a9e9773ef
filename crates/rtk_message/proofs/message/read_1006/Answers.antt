use Rattle.std.proofs.Common.{refl}
use Rattle.rtk_message.proofs.message.read_1006.Goals as goal

pub returns-clause-message : goal.returns-clause-message
returns-clause-message c =
    let read = c.in_ok-read.ensures.fields in
    record { has_number = refl; valid = read.0; begins = (c.read.new.reader, read.1.is) }
