use Rattle.rtk_bits.proofs.WriterLemmas.{padded_tail, no_tail}
use Rattle.rtk_bits.proofs.writer.BitWriter.finish.Goals as goal

pub returns-in-Ok : goal.returns-in-Ok
returns-in-Ok c =
    rw (c.in-Ok.ensures.items, ← c.self.view_is) (padded_tail c.self.inside.bytes.items c.self.inside.tail_width c.self.inside.tail c.if-tail_width-gt0.true c.self.invariant.0 c.self.invariant.1)

pub returns-else-tail_width-gt0 : goal.returns-else-tail_width-gt0
returns-else-tail_width-gt0 c = rw (← c.self.view_is) (no_tail c.self.inside.bytes.items c.self.inside.tail_width c.self.inside.tail c.if-tail_width-gt0.false)
