use Rattle.std.proofs.Common.{arith}
use Rattle.rtk_message.proofs.FieldLemmas.{took, took_none, took_word}
use Rattle.rtk_message.proofs.Obs1012Lemmas.{is_out_of_day, is_cut}
use Rattle.rtk_message.proofs.obs1012.Obs1012.replace_fields.Goals as goal

pub returns-then-self-ge-LONGEST_DAY_MS-clause-fault : goal.returns-then-self-ge-LONGEST_DAY_MS-clause-fault
returns-then-self-ge-LONGEST_DAY_MS-clause-fault c =
    let head = took_word (took c.next_u16-self.ensures.taken (took c.next_u32-self.ensures.taken (took c.next_flag-self.ensures.taken (took c.next_u8-count.ensures.taken (took c.next_flag-self-2.ensures.taken (took c.next_u8-self.ensures.taken took_none))))))
    (omega (arith, c.next_word-header.ensures.width, c.next_u16-self.ensures.left, c.next_u32-self.ensures.left, c.next_flag-self.ensures.left, c.next_u8-count.ensures.left, c.next_flag-self-2.ensures.left, c.next_u8-self.ensures.left)) c.next_word-header.ensures.bits in
    is_out_of_day head (omega (arith, c.if-self-ge-LONGEST_DAY_MS.true))

pub returns-then-remaining-count-clause-fault : goal.returns-then-remaining-count-clause-fault
returns-then-remaining-count-clause-fault c =
    let head = took_word (took c.next_u16-self.ensures.taken (took c.next_u32-self.ensures.taken (took c.next_flag-self.ensures.taken (took c.next_u8-count.ensures.taken (took c.next_flag-self-2.ensures.taken (took c.next_u8-self.ensures.taken took_none))))))
    (omega (arith, c.next_word-header.ensures.width, c.next_u16-self.ensures.left, c.next_u32-self.ensures.left, c.next_flag-self.ensures.left, c.next_u8-count.ensures.left, c.next_flag-self-2.ensures.left, c.next_u8-self.ensures.left)) c.next_word-header.ensures.bits in
    is_cut head (omega (arith, c.if-self-ge-LONGEST_DAY_MS.false)) (omega (arith, c.if-remaining-count.true, c.remaining-2.ensures))
