use Rattle.std.proofs.Common.{arith}
use Rattle.rtk_message.proofs.FieldLemmas.{took, took_none, took_both, took_word}
use Rattle.rtk_message.proofs.msm1074.next_header.Goals as goal

pub returns-clause-fields : goal.returns-clause-fields
returns-clause-fields c =
    let first = took_word (took c.next_u16.ensures.taken (took c.next_u32.ensures.taken (took c.next_flag.ensures.taken (took c.next_u8.ensures.taken took_none))))
    (omega (arith, c.next_word-first.ensures.width, c.next_u16.ensures.left, c.next_u32.ensures.left, c.next_flag.ensures.left, c.next_u8.ensures.left)) c.next_word-first.ensures.bits in
    let second = took_word (took c.next_u8-2.ensures.taken (took c.next_u8-3.ensures.taken (took c.next_u8-4.ensures.taken (took c.next_flag-2.ensures.taken (took c.next_u8-5.ensures.taken took_none)))))
    (omega (arith, c.next_word-second.ensures.width, c.next_u8-2.ensures.left, c.next_u8-3.ensures.left, c.next_u8-4.ensures.left, c.next_flag-2.ensures.left, c.next_u8-5.ensures.left)) c.next_word-second.ensures.bits in
    let satellites = took_word (took c.next_u64.ensures.taken took_none)
    (omega (arith, c.next_word-satellites.ensures.width, c.next_u64.ensures.left)) c.next_word-satellites.ensures.bits in
    let signals = took_word (took c.next_u32-2.ensures.taken took_none)
    (omega (arith, c.next_word-signals.ensures.width, c.next_u32-2.ensures.left)) c.next_word-signals.ensures.bits in
    took_both first (took_both second (took_both satellites signals))
