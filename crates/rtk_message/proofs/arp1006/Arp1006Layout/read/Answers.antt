use Rattle.std.proofs.Common.{arith}
use Rattle.rtk_message.proofs.FieldLemmas.{took, took_none, took_both, took_word}
use Rattle.rtk_message.proofs.arp1006.Arp1006Layout.read.Goals as goal

pub returns-clause-fields : goal.returns-clause-fields
returns-clause-fields c =
    let height = took_word (took c.next_u16-self.ensures.taken took_none) (omega (arith, c.next_word-last.ensures.width, c.next_u16-self.ensures.left)) c.next_word-last.ensures.bits in
    let all = took_both c.next_reference_point-self.ensures.fields height in
    (all.fit, all)
