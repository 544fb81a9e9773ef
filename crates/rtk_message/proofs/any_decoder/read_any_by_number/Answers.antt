use Rattle.rtk_message.proofs.AnyDecodedLemmas.{after_four, fault_after_four, clock_of_four}
use Rattle.rtk_message.proofs.DecodedLemmas.{same_fault_of_other}
use Rattle.rtk_message.proofs.any_decoder.read_any_by_number.Goals as goal

pub returns-in-None-clause-message : goal.returns-in-None-clause-message
returns-in-None-clause-message c = rw c.widened.ensures (after_four c.args.number c.args.reader c.read_by_number.result c.read_by_number.ensures.message)

pub returns-in-None-clause-fault : goal.returns-in-None-clause-fault
returns-in-None-clause-fault c =
    rw c.widened.ensures (fault_after_four c.args.any_day c.args.number c.args.reader c.read_by_number.result (same_fault_of_other c.args.any_day c.args.number c.args.reader c.if-number-eq-NUMBER.false c.in-None.ensures.none) c.read_by_number.ensures.fault)

pub returns-in-None-clause-clock : goal.returns-in-None-clause-clock
returns-in-None-clause-clock c = rw c.widened.ensures (clock_of_four c.args.any_day c.read_by_number.result)
