use Rattle.rtk_rinex.proofs.SlotsReadLemmas.{ReadsSlots}
use Rattle.rtk_rinex.proofs.mixed_slots_read.read_slots.Given as goal

abbrev pub invariant-loop-i : goal.invariant-loop-i
invariant-loop-i l = ReadsSlots l.text l.count l.i l.last l.channels
